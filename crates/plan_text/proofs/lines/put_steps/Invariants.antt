-- What is left to store gives what the whole does.
use Prim.Native.Nat.{◌+◌}
use Rattle.plan_text.specs.Text.{step_lines}
use Rattle.slot.specs.Slot.{steps_from}
use Rattle.step.specs.Packed.{steps_at, steps_of}
use lib.ListN.{length}
use lib.Seq.{sets}
use mathlib.Core.Path.{◌≡◌}
use Rattle.plan_text.proofs.lines.put_steps.Given as goal

abbrev pub invariant-loop-step : goal.invariant-loop-step
invariant-loop-step l = (length l.out ≡ length l.initial.out)
    × (l.to + length (step_lines (steps_of l.step-iterator.rest.now)) ≡ l.at + length (step_lines (steps_at l.slot steps_from l.count)))
    × (sets l.out l.to (step_lines (steps_of l.step-iterator.rest.now)) ≡ sets l.initial.out l.at (step_lines (steps_at l.slot steps_from l.count)))
