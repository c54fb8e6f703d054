-- Two numbers of two bytes are one of four.
use Rattle.lent.proofs.Bytes.{number-add}
use native.Mathlib.Omega.{arith}
use Rattle.lent.proofs.words.four_in.Goals as goal

pub returns : goal.returns
returns c = let e = number-add c.args.s.now c.args.at 2 2 in (omega (arith, e, c.two_in.ensures.0, c.two_in-2.ensures.0), omega arith)
