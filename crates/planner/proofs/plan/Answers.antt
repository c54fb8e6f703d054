use Prim.Native.Nat.{◌<◌}
use Rattle.admission.proofs.Sizes.{size_small}
use Rattle.admission_rules.proofs.When.{admitted, front, raised, rest}
use Rattle.admission_rules.specs.Admission.{layout_ok}
use Rattle.field.specs.declared.Holder.TheVariants.{Record}
use Rattle.layout.proofs.Shapes.{base-in-record, few-in-record}
use Rattle.layout.specs.Layout.{count_of}
use Rattle.layout.specs.Shape.{shape_ok}
use Rattle.planner.proofs.Passing.{both-there}
use Rattle.planner.specs.Planner.{after_plan, planned_of}
use Rattle.table_rules.specs.declared.Rule.TheVariants.{Bounds}
use lib.Dec.{ltb}
use mathlib.Core.Bool.{◌&&◌, false, true}
use mathlib.Core.List.{[], ◌∷◌}
use mathlib.Core.Path.{◌∙◌, ◌≡◌, sym}
use native.Mathlib.Omega.{arith}
use Rattle.planner.proofs.plan.Goals as goal

pub record_head-from-requires : goal.record_head-from-requires
record_head-from-requires c = omega (arith, (both-there c.args.k c.count_of.result c.args.to c.count_of-2.result c.if-there-to.true).0, c.count_of.ensures.1)

pub record_head-at-requires : goal.record_head-at-requires
record_head-at-requires c = omega (arith, (both-there c.args.k c.count_of.result c.args.to c.count_of-2.result c.if-there-to.true).1, c.count_of-2.ensures.1)

pub between-requires : goal.between-requires
between-requires c = let a = c.args in
    let s = a.source.now in
    let t = a.target.now in
    let fine = admitted a.cat.now (s ∷ t ∷ []) (sym c.admit_both.ensures ∙ c.in_ok-admit_both.was) in
    let there = both-there a.k c.count_of.result a.to c.count_of-2.result c.if-there-to.true in
    let from : a.k < count_of Record s = rw (← c.count_of.ensures.0) there.0 in
    let to : a.to < count_of Record t = rw (← c.count_of-2.ensures.0) there.1 in
    let shaped = front shape_ok s (t ∷ []) fine.shaped in
    let shaped' = front shape_ok t [] (rest shape_ok s (t ∷ []) fine.shaped) in
    let bounds = front (layout_ok Bounds a.cat.now) t [] (rest (layout_ok Bounds a.cat.now) s (t ∷ []) (fine.rules Bounds)) in (
      rw c.record_head-from.ensures.0 (base-in-record s a.k shaped from),
      rw c.record_head-at.ensures.0 (size_small a.cat.now t a.to to shaped' bounds),
      rw c.record_head-at.ensures.0 (few-in-record t a.to shaped' to),
      rw c.record_head-from.ensures.0 (few-in-record s a.k shaped from),
    )

pub returns-in_err-admit_both : goal.returns-in_err-admit_both
unfolding planned_of after_plan
returns-in_err-admit_both c =
    let e = sym c.admit_both.ensures ∙ c.in_err-admit_both.was in
    (rw e (raised _ _ c.from_residual.ensures.1), rw e)

pub returns-then-there-to : goal.returns-then-there-to
unfolding planned_of after_plan
returns-then-there-to c = let a = c.args in
    let fine = sym c.admit_both.ensures ∙ c.in_ok-admit_both.was in
    let there : (ltb a.k (count_of Record a.source.now) && ltb a.to (count_of Record a.target.now)) ≡ true = rw (← c.count_of.ensures.0, ← c.count_of-2.ensures.0) c.if-there-to.true in (
      rw (fine, there, ← c.record_head-at.ensures.0) c.between.ensures.0,
      rw (fine, there, ← c.record_head-at.ensures.0, ← c.record_head-from.ensures.0, ← c.between.ensures.0) c.between.ensures.1,
    )

pub returns : goal.returns
unfolding planned_of after_plan
returns c = let a = c.args in
    let fine = sym c.admit_both.ensures ∙ c.in_ok-admit_both.was in
    let there : (ltb a.k (count_of Record a.source.now) && ltb a.to (count_of Record a.target.now)) ≡ false = rw (← c.count_of.ensures.0, ← c.count_of-2.ensures.0) c.if-there-to.false in
    (rw (fine, there), rw (fine, there))
