use Rattle.plan_text.proofs.Laid.{head-length}
use native.Mathlib.Omega.{arith}
use Rattle.plan_text.proofs.lengths.of_head.Goals as goal

pub returns : goal.returns
returns c = let e = head-length c.args.slot.now in let a = rw c.u16_in.ensures at c.cell_length.ensures.0 in (omega arith, omega arith)
