use Rattle.slot.proofs.Kept.{kept_slot}
use native.Mathlib.Omega.{arith}
use Rattle.slot.proofs.valid.ValidPlan.size.Goals as goal

pub number_in-requires : goal.number_in-requires
number_in-requires c = let k = kept_slot c.args.self.bytes.now c.args.self.valid in omega (arith, k.long)
