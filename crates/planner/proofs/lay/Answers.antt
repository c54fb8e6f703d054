use Rattle.planner.specs.Planner.{plan_between}
use native.Mathlib.Omega.{arith}
use Rattle.planner.proofs.lay.Goals as goal

pub planned-steps-requires : goal.planned-steps-requires
planned-steps-requires c = (rw c.table_at-want.ensures c.requires.3, omega (arith, c.record_base.ensures, c.requires.1), rw c.table_at-have.ensures c.requires.6)

pub in_two_bytes-requires : goal.in_two_bytes-requires
in_two_bytes-requires c = omega (arith, c.record_base.ensures, c.requires.1)

pub in_two_bytes-requires-2 : goal.in_two_bytes-requires-2
in_two_bytes-requires-2 c = omega (arith, c.requires.0)

pub in_two_bytes-requires-3 : goal.in_two_bytes-requires-3
in_two_bytes-requires-3 c = omega (arith, c.record_base-2.ensures, c.requires.2)

pub in_two_bytes-requires-4 : goal.in_two_bytes-requires-4
in_two_bytes-requires-4 c = omega (arith, c.requires.2, c.requires.7)

pub pack-requires : goal.pack-requires
pack-requires c = (c.planned-steps.ensures.1, c.requires.4, c.requires.5)

pub returns : goal.returns
unfolding plan_between
returns c = rw (c.pack.ensures, c.planned-steps.ensures.0, c.in_two_bytes.ensures, c.in_two_bytes-2.ensures, c.in_two_bytes-3.ensures, c.in_two_bytes-4.ensures, c.record_rtype.ensures, c.record_rtype-2.ensures, c.record_base.ensures, c.record_base-2.ensures, c.requires.7, c.table_at-have.ensures, c.table_at-want.ensures)
