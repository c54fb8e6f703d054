-- A number of four bytes and one of one are one of five.
use Rattle.lent.proofs.Bytes.{number-add}
use native.Mathlib.Omega.{arith}
use Rattle.field.proofs.reserved_at.Goals as goal

pub returns : goal.returns
returns c = omega (arith, number-add c.args.t.now c.args.at 4 1)
