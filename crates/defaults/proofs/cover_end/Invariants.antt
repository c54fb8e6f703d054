-- The fields left decide.
use Rattle.std.proofs.Common.{◌≡◌}
use Rattle.defaults.specs.Defaults.{cover_end}
use Rattle.field.specs.Field.{fields_of}
use Rattle.defaults.proofs.cover_end.Given as goal

abbrev pub invariant-loop-f : goal.invariant-loop-f
invariant-loop-f l = cover_end l.cat (fields_of l.f-iterator.rest.now) l.i ≡ cover_end l.cat (fields_of l.fn.table) l.i
