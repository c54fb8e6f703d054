use Rattle.decimal.proofs.Numbers.{place_none, place-there}
use Rattle.decimal.proofs.Puts.{put_as, put-none}
use Rattle.decimal.specs.Decimal.{place}
use lib.ListN.{length}
use mathlib.Core.Path.{◌≡◌, sym}
use native.Mathlib.Omega.{arith}
use Rattle.decimal.proofs.put_place.Goals as goal

pub put_byte-requires : goal.put_byte-requires
put_byte-requires c = let e : length (place c.args.unit c.args.n) ≡ 1 = rw (place-there c.args.unit c.args.n c.if-unit-n.true) in omega arith

pub returns-then-unit-n : goal.returns-then-unit-n
returns-then-unit-n c = put_as c.put_byte.ensures (sym (place-there _ _ c.if-unit-n.true))

pub returns : goal.returns
returns c = put_as (put-none _ _) (sym (place_none _ _ c.if-unit-n.false))
