use Rattle.plan_text.proofs.Laid.{lines-length, lines-none, packed-lines-most}
use Rattle.plan_text.specs.Text.{step_lines}
use Rattle.slot.specs.Slot.{steps_from}
use Rattle.step.specs.Packed.{steps_of}
use lib.ListN.{length}
use mathlib.Core.Path.{◌≡◌, ap}
use native.Mathlib.Omega.{arith}
use Rattle.plan_text.proofs.lengths.of_steps.Goals as goal

pub loop-step-init : goal.loop-step-init
loop-step-init c = rw (c.into_iter-step-iterator.ensures.into_iter_gives, c.steps_in-step-items.ensures) (omega arith)

pub overflow_add-sum : goal.overflow_add-sum
overflow_add-sum c =
    let most = packed-lines-most c.args.slot.now steps_from c.args.count in
    let e = lines-length c.in-Some.ensures.steps in
    let a = c.of_step-sum.ensures.0 in
    omega arith

pub loop-step-preserved : goal.loop-step-preserved
loop-step-preserved c =
    let e = lines-length c.in-Some.ensures.steps in
    let a = c.of_step-sum.ensures.0 in
    omega arith

pub returns : goal.returns
returns c =
    let e : length (step_lines (steps_of c.loop-step.step-iterator.rest.now)) ≡ 0 = ap length (lines-none c.in-None.ensures.steps.0) in
    let most = packed-lines-most c.args.slot.now steps_from c.args.count in
    (omega arith, omega arith)
