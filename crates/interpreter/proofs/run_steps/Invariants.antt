-- What is left of the steps gives what all of them do.
use Rattle.interpreter.specs.Run.{fits, run}
use Rattle.lent.specs.Scan.{every}
use Rattle.slot.specs.Slot.{plan_in}
use Rattle.step.specs.Packed.{steps_of}
use lib.ListN.{length}
use mathlib.Core.Bool.{true}
use mathlib.Core.Path.{◌≡◌}
use Rattle.interpreter.proofs.run_steps.Given as goal

abbrev pub invariant-loop-step : goal.invariant-loop-step
invariant-loop-step l = (length l.dst ≡ length l.initial.dst) × (every (fits (length l.initial.dst)) (steps_of l.step-iterator.rest.now) ≡ true)
    × (run l.src (steps_of l.step-iterator.rest.now) l.dst ≡ run l.src (plan_in l.plan.bytes.now).steps l.initial.dst)
