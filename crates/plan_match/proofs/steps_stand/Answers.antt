use Rattle.plan_match.proofs.Parted.{steps-end, steps-go, steps-stop, stood-some}
use Rattle.plan_text.proofs.Laid.{lines-length, lines-none}
use Rattle.plan_text.specs.Text.{step_line, step_lines}
use Rattle.step.specs.Packed.{steps_of}
use lib.ListN.{length}
use mathlib.Core.Path.{◌≡◌, ap, refl}
use native.Mathlib.Omega.{arith}
use Rattle.plan_match.proofs.steps_stand.Goals as goal

pub loop-step-init : goal.loop-step-init
loop-step-init c = rw (c.into_iter-step-iterator.ensures.into_iter_gives, c.steps_in-step-items.ensures) (c.requires.1, refl)

pub returns-in_default : goal.returns-in_default
returns-in_default c = steps-stop c.args.text.now c.loop-step.next c.loop-step.invariant.1 c.in-Some.ensures.steps c.in_default.ensures

pub overflow_add-next : goal.overflow_add-next
overflow_add-next c =
    let e = lines-length c.in-Some.ensures.steps in
    let f = stood-some (step_line c.in-Some.step.op) c.args.text.now c.loop-step.next c.in-Some-step_stands.ensures in
    let w = f.1 in
    omega arith

pub loop-step-preserved : goal.loop-step-preserved
loop-step-preserved c =
    let e = lines-length c.in-Some.ensures.steps in
    let f = stood-some (step_line c.in-Some.step.op) c.args.text.now c.loop-step.next c.in-Some-step_stands.ensures in
    let w = f.1 in
    (omega arith, steps-go c.args.text.now c.loop-step.next c.loop-step.invariant.1 c.in-Some-step_stands.wide c.in-Some.ensures.steps c.in-Some-step_stands.ensures)

pub returns : goal.returns
returns c =
    let e : length (step_lines (steps_of c.loop-step.step-iterator.rest.now)) ≡ 0 = ap length (lines-none c.in-None.ensures.steps.0) in
    steps-end c.args.text.now c.loop-step.next c.loop-step.invariant.1 c.in-None.ensures.steps.0 (omega arith)
