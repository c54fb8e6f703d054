use Rattle.std.proofs.Common.{refl, sym, ◌∙◌, arith}
use Rattle.field.specs.Field.{fields_of}
use Rattle.coalesce.proofs.Onto.{join_onto}
use Rattle.plan_rules.specs.Rule.{want_at}
use Rattle.steps.proofs.Planning.{first_step, has-default, joins-last, no_more, one-means, stands-alone, two-means}
use lib.ListN.{length-set}
use Rattle.steps.proofs.in_order.Goals as goal
use Rattle.steps.proofs.in_order.Goals.{then-count-ne0+in_default-join, else-count-ne0}

pub loop-place-init : goal.loop-place-init
unfolding join_onto
loop-place-init c = (omega arith, refl, refl)

pub loop-place-preserved-in_default : goal.loop-place-preserved-in_default
loop-place-preserved-in_default c = let a = c.args in
    let l = c.loop-place in (
      omega arith,
      l.invariant.1,
      has-default a.cat.now (fields_of a.source.now.table.now) (want_at a.cat.now a.marks.now a.dst.now) a.order.now
          a.bases.source a.bases.target l.place-index l.count l.steps _ l.invariant.2 c.loop-place-test.true
          (rw (← c.from.ensures, ← c.want_at-want.ensures) (sym c.step_of.ensures ∙ c.in_default.is)),
    )

pub loop-place-preserved-in-Some-join : goal.loop-place-preserved-in-Some-join
loop-place-preserved-in-Some-join c = let a = c.args in
    let l = c.loop-place in
    let j = one-means _ _ _ (sym c.join.ensures ∙ c.in-Some-join.is) in (
      omega arith,
      simp length-set l.invariant.1,
      joins-last a.cat.now (fields_of a.source.now.table.now) (want_at a.cat.now a.marks.now a.dst.now) a.order.now
          a.bases.source a.bases.target l.place-index l.count l.steps _ l.invariant.2 c.loop-place-test.true
          _ (rw (← c.from.ensures, ← c.want_at-want.ensures) (sym c.step_of.ensures ∙ c.in-Some.is)) _ (omega arith) (omega arith) j.0 _ j.1,
    )

pub loop-place-preserved : goal.loop-place-preserved
loop-place-preserved c = let a = c.args in
    let l = c.loop-place in (
      omega arith,
      simp length-set l.invariant.1,
      elim c.if-count-ne0.branch [
        | then-count-ne0+in_default-join w ↦
            stands-alone a.cat.now (fields_of a.source.now.table.now) (want_at a.cat.now a.marks.now a.dst.now) a.order.now
            a.bases.source a.bases.target l.place-index l.count l.steps _ l.invariant.2 c.loop-place-test.true
            _ (rw (← c.from.ensures, ← c.want_at-want.ensures) (sym c.step_of.ensures ∙ c.in-Some.is)) _ (omega arith) (omega arith)
            (two-means _ _ (sym w.join.ensures ∙ w.in_default-join.is)) (omega arith)
        | else-count-ne0 w ↦
            first_step a.cat.now (fields_of a.source.now.table.now) (want_at a.cat.now a.marks.now a.dst.now) a.order.now
            a.bases.source a.bases.target l.place-index l.count l.steps _ l.invariant.2 c.loop-place-test.true
            _ (rw (← c.from.ensures, ← c.want_at-want.ensures) (sym c.step_of.ensures ∙ c.in-Some.is)) (omega arith) (omega arith)
      ],
    )

pub returns-clause-steps : goal.returns-clause-steps
returns-clause-steps c = let a = c.args in
    let l = c.loop-place in
    no_more a.cat.now (fields_of a.source.now.table.now) (want_at a.cat.now a.marks.now a.dst.now) a.order.now
    a.bases.source a.bases.target l.place-index l.count l.steps _ l.invariant.2 c.loop-place-test.false
