use Rattle.slot.proofs.Kept.{kept_slot}
use native.Mathlib.Omega.{arith}
use Rattle.slot.proofs.valid.ValidPlan.steps.Goals as goal

pub number_in-requires : goal.number_in-requires
number_in-requires c = let k = kept_slot c.args.self.bytes.now c.args.self.valid in omega (arith, k.long)

pub steps_in-requires : goal.steps_in-requires
steps_in-requires c = let k = kept_slot c.args.self.bytes.now c.args.self.valid in omega (arith, k.long, k.few, c.number_in.ensures.0)

pub returns : goal.returns
returns c = rw c.number_in.ensures.0 at c.steps_in.ensures
