use Rattle.plan_read.proofs.Candidate.{bounds, drawn, judged, room-told, says-bad, says-crowded, says-read, says-short}
use mathlib.Core.Path.{◌∙◌, sym}
use native.Mathlib.Omega.{arith}
use Rattle.plan_read.proofs.reader.read_plan.Goals as goal

pub returns-then-plan-lt-SIZE : goal.returns-then-plan-lt-SIZE
returns-then-plan-lt-SIZE c = says-short c.args.text.now c.args.plan.now c.if-plan-lt-SIZE.true

pub returns-then-not-has_room : goal.returns-then-not-has_room
returns-then-not-has_room c = says-crowded c.args.text.now c.args.plan.now c.if-plan-lt-SIZE.false (sym (room-told c.args.text.now _ c.take_head-behind.ensures.0 _ c.has_room.ensures) ∙ c.if-not-has_room.true)

pub take_rest-requires : goal.take_rest-requires
take_rest-requires c = let room = sym (room-told c.args.text.now _ c.take_head-behind.ensures.0 _ c.has_room.ensures) ∙ c.if-not-has_room.false in
    let b = bounds c.args.text.now _ c.take_head-behind.ensures.0 c.body_length-n.result c.number_at-count.result room c.body_length-n.ensures c.number_at-count.ensures.0 in
    (c.take_head-behind.ensures.2, b.0, b.1, omega arith)

pub returns-then-not-is_plan_of : goal.returns-then-not-is_plan_of
returns-then-not-is_plan_of c = let room = sym (room-told c.args.text.now _ c.take_head-behind.ensures.0 _ c.has_room.ensures) ∙ c.if-not-has_room.false in
    let d = drawn c.args.text.now _ c.take_head-behind.ensures.0 c.body_length-n.result c.number_at-count.result room c.body_length-n.ensures c.number_at-count.ensures.0 _ c.take_head-behind.result c.take_head-behind.ensures.1 c.take_rest.ensures in
    says-bad c.args.text.now c.args.plan.now c.if-plan-lt-SIZE.false (sym (c.is_plan_of.ensures ∙ judged c.args.text.now _ d) ∙ c.if-not-is_plan_of.true)

pub copy-requires : goal.copy-requires
copy-requires c = (omega arith, omega arith)

pub returns : goal.returns
returns c = let room = sym (room-told c.args.text.now _ c.take_head-behind.ensures.0 _ c.has_room.ensures) ∙ c.if-not-has_room.false in
    let d = drawn c.args.text.now _ c.take_head-behind.ensures.0 c.body_length-n.result c.number_at-count.result room c.body_length-n.ensures c.number_at-count.ensures.0 _ c.take_head-behind.result c.take_head-behind.ensures.1 c.take_rest.ensures in
    says-read c.args.text.now c.args.plan.now c.if-plan-lt-SIZE.false _ _ (sym (c.is_plan_of.ensures ∙ judged c.args.text.now _ d) ∙ c.if-not-is_plan_of.false) d c.copy.ensures
