use native.Mathlib.Omega.{arith}
use Rattle.plan_take.proofs.take_head.Goals as goal

pub take_numbers-requires : goal.take_numbers-requires
take_numbers-requires c = (c.skip-start.ensures.inside, omega arith)

pub returns : goal.returns
returns c = rw c.skip-start.ensures.rest at c.take_numbers.ensures
