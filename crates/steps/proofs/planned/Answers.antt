use Rattle.std.proofs.Common.{◌∙◌, ◌/◌, ◌<◌, ap, ℕ, List, length, arith}
use lib.ListN.{length-take}
use lib.Seq.{get_or-take}
use Rattle.coalesce.specs.Joins.{join_all}
use Rattle.field.proofs.Mapped.{in_order}
use Rattle.field.proofs.Placed.{placed}
use Rattle.field.specs.Field.{fields_of}
use Rattle.plan_rules.specs.Rule.{Want, want_at}
use Rattle.steps.specs.Steps.{offset_of_want, planned_steps, steps_of}
use Rattle.steps.proofs.planned.Goals as goal

pub in_order-requires-clause-few : goal.in_order-requires-clause-few
in_order-requires-clause-few c = simp length-take (omega arith)

pub in_order-requires-clause-inside : goal.in_order-requires-clause-inside
in_order-requires-clause-inside c k h =
    let few : k < length c.args.dst.now / 16 = omega (arith, length-take (length c.args.dst.now / 16) c.by_offset.new.order) in
    rw (get_or-take (length c.args.dst.now / 16) c.by_offset.new.order k 0 few) (placed _ _ _ k _ (omega arith) few (omega arith) c.by_offset.ensures.2)

pub returns : goal.returns
unfolding planned_steps
returns c = let a = c.args in
    let n : ℕ = length a.dst.now / 16 in
    let o = in_order (want_at a.cat.now a.marks.now a.dst.now) offset_of_want 16 0 n _ c.by_offset.ensures.2 in (
      c.in_order.ensures.steps ∙ rw c.of.ensures (ap (λ (ws : List Want). join_all a.bases.source a.bases.target (steps_of a.cat.now (fields_of a.src.now) ws)) o),
      omega (arith, c.in_order.ensures.count, length-take (length c.args.dst.now / 16) c.by_offset.new.order),
    )
