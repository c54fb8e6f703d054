use Rattle.decimal.proofs.Numbers.{place_none, place-there}
use native.Mathlib.Omega.{arith}
use Rattle.decimal.proofs.digits_at.Goals as goal

pub returns-then-n-unit : goal.returns-then-n-unit
returns-then-n-unit c = (rw (place_none _ _ c.if-n-unit.true), omega arith)

pub returns-else-n-unit : goal.returns-else-n-unit
returns-else-n-unit c = (rw (place-there _ _ c.if-n-unit.false), omega arith)
