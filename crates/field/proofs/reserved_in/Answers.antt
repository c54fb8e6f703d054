-- Numbers of two, two and one bytes are one of five.
use Prim.Native.Nat.{◌+◌}
use Rattle.lent.proofs.Bytes.{number-add}
use native.Mathlib.Omega.{arith}
use Rattle.field.proofs.reserved_in.Goals as goal

pub returns : goal.returns
returns c = omega (arith, number-add c.args.t.now c.args.at 2 3, number-add c.args.t.now (c.args.at + 2) 2 1)
