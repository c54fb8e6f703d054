use Rattle.decimal.proofs.Numbers.{cell-length}
use Rattle.decimal.proofs.Puts.{put_then}
use Rattle.decimal.specs.Decimal.{cell}
use native.Mathlib.Omega.{arith}
use Rattle.decimal.proofs.put_cell.Goals as goal

pub put_decimal-behind-requires : goal.put_decimal-behind-requires
put_decimal-behind-requires c = let e = cell-length c.args.n c.args.end in omega arith

pub put_byte-requires : goal.put_byte-requires
put_byte-requires c = let e = cell-length c.args.n c.args.end in let a = c.put_decimal-behind.ensures.behind in omega arith

pub returns : goal.returns
unfolding cell
returns c = put_then c.put_decimal-behind.ensures c.put_byte.ensures
