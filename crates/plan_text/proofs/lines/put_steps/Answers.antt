use Rattle.decimal.proofs.Puts.{put-goes, put-left, put-room}
use Rattle.plan_text.proofs.Laid.{lines-none, lines-turn}
use Prim.Native.Nat.{◌+◌, ◌≤◌}
use Rattle.plan_text.specs.Text.{step_line, step_lines}
use Rattle.slot.specs.Slot.{steps_from}
use Rattle.step.specs.Packed.{steps_at, steps_of}
use lib.ListN.{length}
use mathlib.Core.Path.{◌≡◌, ap, refl}
use native.Mathlib.Omega.{arith}
use Rattle.plan_text.proofs.lines.put_steps.Goals as goal

pub loop-step-init : goal.loop-step-init
loop-step-init c = rw (c.into_iter-step-iterator.ensures.into_iter_gives, c.steps_in-step-items.ensures) (refl, refl, refl)

pub put_step-to-requires : goal.put_step-to-requires
put_step-to-requires c = let room : c.loop-step.to + length (step_line c.in-Some.step.op) ≤ c.args.at + length (step_lines (steps_at c.args.slot.now steps_from c.args.count)) = put-room c.loop-step.to _ _ _ _ (lines-turn c.in-Some.ensures.steps) c.loop-step.invariant.1 in omega arith

pub loop-step-preserved : goal.loop-step-preserved
loop-step-preserved c =
    let e = lines-turn c.in-Some.ensures.steps in
    (omega arith, put-left _ _ _ e c.put_step-to.ensures c.loop-step.invariant.1, put-goes _ _ _ e c.put_step-to.ensures c.loop-step.invariant.2)

pub returns : goal.returns
returns c =
    let e = lines-none c.in-None.ensures.steps.0 in
    record { stored = rw e at c.loop-step.invariant.2; behind = let l : length (step_lines (steps_of c.loop-step.step-iterator.rest.now)) ≡ 0 = ap length e in omega arith }
