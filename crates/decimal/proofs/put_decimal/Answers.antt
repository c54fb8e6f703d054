use Rattle.decimal.proofs.Numbers.{decimal-length}
use Rattle.decimal.proofs.Puts.{put_as, put_then}
use Rattle.decimal.specs.Decimal.{decimal}
use mathlib.Core.List.{append_assoc}
use native.Mathlib.Omega.{arith}
use Rattle.decimal.proofs.put_decimal.Goals as goal

pub put_place-a-requires : goal.put_place-a-requires
put_place-a-requires c = let e = decimal-length c.args.n in (omega arith, omega arith)

pub put_place-b-requires : goal.put_place-b-requires
put_place-b-requires c = let e = decimal-length c.args.n in let a = c.put_place-a.ensures.behind in (omega arith, omega arith)

pub put_place-c-requires : goal.put_place-c-requires
put_place-c-requires c = let e = decimal-length c.args.n in let a = c.put_place-a.ensures.behind in let b = c.put_place-b.ensures.behind in (omega arith, omega arith)

pub put_place-d-requires : goal.put_place-d-requires
put_place-d-requires c = let e = decimal-length c.args.n in let a = c.put_place-a.ensures.behind in let b = c.put_place-b.ensures.behind in let d = c.put_place-c.ensures.behind in (omega arith, omega arith)

pub put_byte-requires : goal.put_byte-requires
put_byte-requires c = let e = decimal-length c.args.n in let a = c.put_place-a.ensures.behind in let b = c.put_place-b.ensures.behind in let d = c.put_place-c.ensures.behind in let f = c.put_place-d.ensures.behind in omega arith

pub returns : goal.returns
unfolding decimal
returns c = put_as (put_then (put_then (put_then (put_then c.put_place-a.ensures c.put_place-b.ensures) c.put_place-c.ensures) c.put_place-d.ensures) c.put_byte.ensures) (simp append_assoc)
