use Rattle.decimal.proofs.Numbers.{decimal-length}
use native.Mathlib.Omega.{arith}
use Rattle.decimal.proofs.cell_length.Goals as goal

pub returns : goal.returns
returns c = let e = decimal-length c.args.n in (omega arith, omega arith)
