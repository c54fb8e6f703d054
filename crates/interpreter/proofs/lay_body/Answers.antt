use Rattle.slot.proofs.Kept.{kept_slot}
use native.Mathlib.Omega.{arith}
use Rattle.interpreter.proofs.lay_body.Goals as goal

pub copy-requires : goal.copy-requires
copy-requires c = let k = kept_slot c.args.plan.bytes.now c.args.plan.valid in (omega (arith, k.long, k.plan.sizes.size, k.plan.sizes.header, c.header.ensures, c.size.ensures), omega (arith, k.plan.sizes.header, c.header.ensures, c.size.ensures))

pub returns : goal.returns
returns c = rw (c.copy.ensures, c.header.ensures, c.size.ensures)
