-- What is left to compare decides.
use Prim.Native.Nat.{◌+◌}
use Rattle.lent.specs.Scan.{alike}
use Rattle.plan_text.specs.Text.{step_lines}
use Rattle.slot.specs.Slot.{steps_from}
use Rattle.step.specs.Packed.{steps_at, steps_of}
use lib.Dec.{eqb}
use lib.ListN.{drop, length}
use mathlib.Core.Path.{◌≡◌}
use Rattle.plan_match.proofs.steps_stand.Given as goal

abbrev pub invariant-loop-step : goal.invariant-loop-step
invariant-loop-step l = (l.next + length (step_lines (steps_of l.step-iterator.rest.now)) ≡ length l.text)
    × (alike eqb (step_lines (steps_of l.step-iterator.rest.now)) (drop l.next l.text) ≡ alike eqb (step_lines (steps_at l.slot steps_from l.count)) (drop l.at l.text))
