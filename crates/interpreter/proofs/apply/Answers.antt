use Rattle.interpreter.proofs.Laid.{covered-inside, laid-late}
use Rattle.interpreter.specs.Run.{upgraded}
use Rattle.slot.proofs.Kept.{kept_slot}
use Rattle.slot.specs.Slot.{body_from, count_in, header_in, size_in, steps_from}
use Rattle.step.specs.Packed.{steps_at}
use native.Mathlib.Omega.{arith}
use Rattle.interpreter.proofs.apply.Goals as goal

pub lay_body-requires : goal.lay_body-requires
lay_body-requires c = let s = c.args.plan.bytes.now in
    let k = kept_slot s c.args.plan.valid in
    let z = covered-inside c.args.src.now (header_in s) (size_in s) (steps_at s steps_from (count_in s)) k.plan.sizes.header k.plan.steps in
    rw c.covered_to.ensures (z.0, z.1, c.requires)

pub run_steps-requires : goal.run_steps-requires
run_steps-requires c = omega (arith, c.requires, c.lay_body.auto.dst)

pub returns : goal.returns
unfolding upgraded
returns c = let s = c.args.plan.bytes.now in
    let k = kept_slot s c.args.plan.valid in
    rw (c.run_steps.ensures, c.lay_body.ensures, c.covered_to.ensures) (laid-late s c.args.src.now c.args.dst.now body_from (header_in s) (size_in s) (omega (arith, k.long, k.plan.sizes.size)) (steps_at s steps_from (count_in s)) k.plan.sizes.header k.plan.steps)
