-- The largest so far and the fields left give the largest.
use Prim.Native.Nat.{◌<◌, max}
use Rattle.calls_rules.specs.Calls.{widest}
use Rattle.field.specs.Field.{fields_of}
use mathlib.Core.Path.{◌≡◌}
use Rattle.calls.proofs.widest.Given as goal

abbrev pub invariant-loop-f : goal.invariant-loop-f
invariant-loop-f l = (l.most < 16) × (max l.most (widest l.cat (fields_of l.f-iterator.rest.now)) ≡ widest l.cat (fields_of l.fn.t))
