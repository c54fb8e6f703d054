-- Two numbers of two bytes are one of four.
use Rattle.lent.proofs.Bytes.{number-add}
use native.Mathlib.Omega.{arith}
use Rattle.lent.proofs.u32_at.Goals as goal

pub returns : goal.returns
returns c = omega (arith, number-add c.args.s.now c.args.at 2 2)
