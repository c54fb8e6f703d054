-- No room, a broken plan, or applied.
use Rattle.dispatch.proofs.Answers.{planned-bad, planned-done, planned-full}
use Rattle.slot.specs.Slot.{slot_ok}
use lib.ListN.{length}
use lib.Seq.{length-take-le, take_all}
use mathlib.Core.Bool.{true, false}
use mathlib.Core.Path.{◌≡◌, sym}
use native.Mathlib.Omega.{arith}
use Rattle.dispatch.proofs.planned.Goals as goal

pub returns-then-dst-size : goal.returns-then-dst-size
returns-then-dst-size c =
    let both = (planned-full c.args.slot.now c.args.dst.now _ (rw c.number_at-size.ensures.0 at c.if-dst-size.true)) in
    record { answer = both.0; target = both.1 }

pub slice_bounds-of-end : goal.slice_bounds-of-end
slice_bounds-of-end c = sym (length-take-le (length c.args.slot.now) c.args.slot.now (omega arith))

pub returns-in_default : goal.returns-in_default
returns-in_default c =
    let a = c.args in
    let wrong : false ≡ slot_ok a.slot.now = rw (take_all (length a.slot.now) a.slot.now (omega arith)) at c.in_default.ensures.valid in
    let both = planned-bad a.slot.now a.dst.now _ (rw c.number_at-size.ensures.0 at c.if-dst-size.false) (sym wrong) in
    record { answer = both.0; target = both.1 }

pub apply-requires : goal.apply-requires
apply-requires c = rw (c.in-Some.ensures.same, take_all (length c.args.slot.now) c.args.slot.now (omega arith)) (rw c.number_at-size.ensures.0 at c.if-dst-size.false)

pub returns : goal.returns
returns c =
    let a = c.args in
    let ok : true ≡ slot_ok a.slot.now = rw (take_all (length a.slot.now) a.slot.now (omega arith)) at c.in-Some.ensures.valid in
    let both = planned-done a.slot.now a.dst.now _ (rw c.number_at-size.ensures.0 at c.if-dst-size.false) (sym ok) _ (rw (c.in-Some.ensures.same, take_all (length a.slot.now) a.slot.now (omega arith)) at c.apply.ensures) in
    record { answer = rw (c.u16_at.ensures, c.number_at-size.ensures.0) both.0; target = both.1 }
