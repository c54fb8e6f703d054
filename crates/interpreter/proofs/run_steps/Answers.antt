use Rattle.interpreter.proofs.Runs.{all_fit, next_fits, run_end, run-turn}
use Rattle.slot.proofs.Kept.{kept_slot}
use lib.ListN.{length}
use mathlib.Core.Path.{◌∙◌, refl}
use Rattle.interpreter.proofs.run_steps.Goals as goal

pub loop-step-init : goal.loop-step-init
loop-step-init c = let k = kept_slot c.args.plan.bytes.now c.args.plan.valid in
    rw (c.into_iter-step-iterator.ensures.into_iter_gives, c.steps-step-items.ensures)
    (refl, all_fit _ _ _ _ c.requires k.plan.steps, refl)

pub run_step-requires : goal.run_step-requires
run_step-requires c = rw c.loop-step.invariant.0 (next_fits (length c.args.dst.now) c.in-Some.ensures.steps c.loop-step.invariant.1).0

pub loop-step-preserved : goal.loop-step-preserved
loop-step-preserved c = (
  c.run_step.auto.dst ∙ c.loop-step.invariant.0,
  (next_fits (length c.args.dst.now) c.in-Some.ensures.steps c.loop-step.invariant.1).1,
  run-turn c.args.src.now c.loop-step.dst c.loop-step.invariant.2 _ c.in-Some.ensures.steps c.run_step.ensures,
)

pub returns : goal.returns
returns c = run_end c.args.src.now c.loop-step.dst c.loop-step.invariant.2 c.in-None.ensures.steps.0
