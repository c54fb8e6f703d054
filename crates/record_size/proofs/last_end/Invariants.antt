-- The greatest so far and the fields left give the last end.
use Prim.Native.Nat.{max}
use mathlib.Core.Path.{◌≡◌}
use Rattle.field.specs.Field.{fields_of}
use Rattle.record_size.specs.Size.{last_end}
use Rattle.record_size.proofs.last_end.Given as goal

abbrev pub invariant-loop-f : goal.invariant-loop-f
invariant-loop-f l = max l.end (last_end (fields_of l.f-iterator.rest.now)) ≡ last_end (fields_of l.fn.t)
