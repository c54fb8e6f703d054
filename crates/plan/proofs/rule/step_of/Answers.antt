use Rattle.std.proofs.Common.{sym, ◌∙◌, None}
use Rattle.field.specs.Field.{fields_of}
use Rattle.plan_rules.specs.Rule.{same_id, step_for, step_of}
use Rattle.plan_rules.proofs.First.{first-missing, first-found}
use Rattle.plan.proofs.rule.step_of.Goals as goal

pub returns-then-not-counts : goal.returns-then-not-counts
unfolding step_of
returns-then-not-counts c = rw (sym c.counts.ensures ∙ c.if-not-counts.true)

pub returns-in_err-have : goal.returns-in_err-have
unfolding step_of
returns-in_err-have c = let a = c.args in
    c.from_residual.ensures ∙ rw (sym c.counts.ensures ∙ c.if-not-counts.false)
    (sym (first-missing (same_id a.want.def) (λ have. step_for a.cat.now have a.want.def a.want.marked) None (fields_of a.source.now.table.now) (sym c.in_err-have.ensures)))

pub returns : goal.returns
unfolding step_of
returns c = let a = c.args in
    c.op_for.ensures ∙ rw (sym c.counts.ensures ∙ c.if-not-counts.false)
    (sym (first-found (same_id a.want.def) (λ have. step_for a.cat.now have a.want.def a.want.marked) None c.in_ok-have.have (fields_of a.source.now.table.now) (sym c.in_ok-have.ensures)))
