-- Two numbers of four bytes are one of eight.
use Rattle.lent.proofs.Bytes.{number-add}
use native.Mathlib.Omega.{arith}
use Rattle.lent.proofs.words.eight_in.Goals as goal

pub returns : goal.returns
returns c = let e = number-add c.args.s.now c.args.at 4 4 in (omega (arith, e, c.four_in.ensures.0, c.four_in-2.ensures.0), omega arith)
