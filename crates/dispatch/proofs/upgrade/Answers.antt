-- Refused by a header or a length, by the first plan, or without one.
use Rattle.dispatch.proofs.Answers.{bad-header, bad-length, by-none, by-plan, header-fine, length-fine}
use mathlib.Core.Path.{◌∙◌, sym}
use Rattle.dispatch.proofs.upgrade.Goals as goal

pub returns-then-src_header-dst_header : goal.returns-then-src_header-dst_header
returns-then-src_header-dst_header c =
    let both = (bad-header c.args.plans.now c.args.unplanned.now c.args.rtype c.args.src_header c.args.dst_header c.args.src.now c.args.stated c.args.dst.now c.if-src_header-dst_header.true) in
    record { answer = both.0; target = both.1 }

pub returns-then-bad_length-stated : goal.returns-then-bad_length-stated
returns-then-bad_length-stated c =
    let both = (bad-length c.args.plans.now c.args.unplanned.now c.args.rtype c.args.src_header c.args.dst_header c.args.src.now c.args.stated c.args.dst.now c.if-src_header-dst_header.false (rw (← c.bad_length.ensures) c.if-bad_length-stated.true)) in
    record { answer = both.0; target = both.1 }

pub bare-requires : goal.bare-requires
bare-requires c = let fine = length-fine c.args.src.now c.args.stated c.args.src_header (rw (← c.bad_length.ensures) c.if-bad_length-stated.false) in
    rw (c.window-record.ensures, fine.0) (fine.2, fine.1, header-fine c.args.src_header c.args.dst_header c.if-src_header-dst_header.false)

pub returns-in-Some : goal.returns-in-Some
returns-in-Some c =
    let both = (by-plan c.args.plans.now c.args.unplanned.now c.args.rtype c.args.src_header c.args.dst_header c.args.src.now c.args.stated c.args.dst.now c.if-src_header-dst_header.false (rw (← c.bad_length.ensures) c.if-bad_length-stated.false)
    _ _ _ c.window-record.ensures _ _ (sym c.first_plan.ensures ∙ c.in-Some.is) c.window.ensures (c.planned.ensures.answer, c.planned.ensures.target)) in
    record { answer = both.0; target = both.1 }

pub returns-in-None : goal.returns-in-None
returns-in-None c =
    let both = (by-none c.args.plans.now c.args.unplanned.now c.args.rtype c.args.src_header c.args.dst_header c.args.src.now c.args.stated c.args.dst.now c.if-src_header-dst_header.false (rw (← c.bad_length.ensures) c.if-bad_length-stated.false)
    _ _ _ c.window-record.ensures (sym c.first_plan.ensures ∙ c.in-None.is) (c.bare.ensures.answer, c.bare.ensures.target)) in
    record { answer = both.0; target = both.1 }
