-- The last so far and the fields left give the last.
use mathlib.Core.Path.{◌≡◌}
use Rattle.std.proofs.Common.{Some}
use Rattle.lent.specs.Scan.{last}
use Rattle.field.specs.Field.{fields_of}
use Rattle.index_rules.specs.Index.{has_id}
use Rattle.index.proofs.last_in.Given as goal

abbrev pub invariant-loop-f : goal.invariant-loop-f
invariant-loop-f l = last (has_id l.cat l.id) Some l.found (fields_of l.f-iterator.rest.now) ≡ last (has_id l.cat l.id) Some l.fn.before (fields_of l.fn.t)
