use Rattle.lent.proofs.Scan.{both}
use Rattle.limits.specs.Limits.{max_steps}
use Rattle.slot.proofs.Checking.{slot-asks, slot-wrong}
use Rattle.slot.specs.Plan.{sizes_ok}
use Rattle.slot.specs.Slot.{count_in, plan_in}
use borrow.Author.Tests.{leb-true}
use native.Mathlib.Omega.{arith}
use Rattle.slot.proofs.check.is_ok.Goals as goal

pub returns-then-slot-ne-SIZE : goal.returns-then-slot-ne-SIZE
returns-then-slot-ne-SIZE c = slot-wrong c.args.slot.now c.if-slot-ne-SIZE.true

pub returns-then-not-numbers_ok : goal.returns-then-not-numbers_ok
returns-then-not-numbers_ok c = let fits = c.if-not-numbers_ok.true in
    rw (slot-asks c.args.slot.now c.if-slot-ne-SIZE.false (λ i. omega (arith, c.shared_slice_known-1.given i)), ← c.numbers_ok.ensures, fits)

pub steps_ok-requires : goal.steps_ok-requires
steps_ok-requires c = (c.if-slot-ne-SIZE.false, leb-true (count_in c.args.slot.now) max_steps (both (sizes_ok (plan_in c.args.slot.now)) _ (rw (← c.numbers_ok.ensures) c.if-not-numbers_ok.false)).1)

pub returns : goal.returns
returns c = let fits = c.if-not-numbers_ok.false in
    rw (slot-asks c.args.slot.now c.if-slot-ne-SIZE.false (λ i. omega (arith, c.shared_slice_known-1.given i)), ← c.numbers_ok.ensures, fits) c.steps_ok.ensures
