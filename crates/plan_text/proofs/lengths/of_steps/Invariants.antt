-- What is left is as long as what is not counted yet.
use Prim.Native.Nat.{◌+◌}
use Rattle.plan_text.specs.Text.{step_lines}
use Rattle.slot.specs.Slot.{steps_from}
use Rattle.step.specs.Packed.{steps_at, steps_of}
use lib.ListN.{length}
use mathlib.Core.Path.{◌≡◌}
use Rattle.plan_text.proofs.lengths.of_steps.Given as goal

abbrev pub invariant-loop-step : goal.invariant-loop-step
invariant-loop-step l = l.sum + length (step_lines (steps_of l.step-iterator.rest.now)) ≡ length (step_lines (steps_at l.slot steps_from l.count))
