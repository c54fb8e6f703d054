use Prim.Native.Nat.{◌*◌, ◌-◌, ◌/◌, ◌+◌}
use Rattle.dispatch.specs.Dispatch.{first_plan, is_of}
use Rattle.lent.proofs.Scan.{first-here, first-later, first-nowhere}
use Rattle.slot.specs.Slot.{slot_size}
use Rattle.std.specs.Prelude.{Some, None}
use borrow.Author.Tests.{eq-eqb, ne_eqb}
use lib.ListN.{length}
use mathlib.Core.Path.{◌≡◌}
use native.Mathlib.Omega.{arith}
use Rattle.dispatch.proofs.choice.first_plan.Goals as goal

pub loop-k-init : goal.loop-k-init
unfolding first_plan
loop-k-init c = let whole : length c.args.plans.now / slot_size - 0 ≡ length c.args.plans.now / slot_size = omega arith in rw whole

pub returns-then-u16_in-rtype : goal.returns-then-u16_in-rtype
returns-then-u16_in-rtype c =
    let n = length c.args.plans.now / slot_size in
    first-here (λ place. place) slot_size (slot_size * c.loop-k.k) (n - c.loop-k.k) (is_of c.args.plans.now c.args.rtype) Some None _ c.loop-k.invariant (omega arith) (rw (← c.u16_in.ensures) (eq-eqb _ _ c.if-u16_in-rtype.true))

pub loop-k-preserved : goal.loop-k-preserved
loop-k-preserved c =
    let n = length c.args.plans.now / slot_size in
    let at : slot_size * (c.loop-k.k + 1) ≡ slot_size * c.loop-k.k + slot_size = omega arith in
    let left : n - (c.loop-k.k + 1) ≡ n - c.loop-k.k - 1 = omega arith in
    rw (at, left) (first-later (λ place. place) slot_size (slot_size * c.loop-k.k) (n - c.loop-k.k) (is_of c.args.plans.now c.args.rtype) Some None _ c.loop-k.invariant (omega arith) (rw (← c.u16_in.ensures) (ne_eqb _ _ c.if-u16_in-rtype.false)))

pub returns : goal.returns
returns c = first-nowhere (λ place. place) slot_size (slot_size * c.loop-k.k) (length c.args.plans.now / slot_size - c.loop-k.k) (is_of c.args.plans.now c.args.rtype) Some None _ c.loop-k.invariant (omega arith)
