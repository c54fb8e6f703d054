-- What is left to take gives what the whole does.
use Prim.Native.Nat.{◌*◌, ◌+◌, ◌-◌, ◌≤◌}
use Rattle.plan_take.specs.Lenient.{steps_as}
use Rattle.slot.specs.Slot.{packed_steps, steps_from}
use lib.ListN.{drop, length}
use lib.Seq.{sets}
use mathlib.Core.Path.{◌≡◌}
use Rattle.plan_take.proofs.take_steps.Given as goal

abbrev pub invariant-loop-k : goal.invariant-loop-k
invariant-loop-k l = (length l.out ≡ length l.initial.out) × (l.next ≤ length l.text)
    × (sets l.out (steps_from + 16 * l.k) (packed_steps (steps_as (l.count - l.k) (drop l.next l.text))) ≡ sets l.initial.out steps_from (packed_steps (steps_as l.count (drop l.at l.text))))
