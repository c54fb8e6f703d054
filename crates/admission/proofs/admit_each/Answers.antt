-- Each test that passed is turned by its contract, the one that failed decides.
use Rattle.admission_rules.specs.Admission.{layout_ok}
use mathlib.Core.Path.{sym, ◌∙◌}
use Rattle.admission.proofs.admit_each.Goals as goal

pub returns-then-not-layouts_ok : goal.returns-then-not-layouts_ok
unfolding layout_ok
returns-then-not-layouts_ok c = rw (sym c.layouts_ok.ensures ∙ c.if-not-layouts_ok.true)

pub returns-then-not-layouts_ok-2 : goal.returns-then-not-layouts_ok-2
unfolding layout_ok
returns-then-not-layouts_ok-2 c = rw (
  sym c.layouts_ok.ensures ∙ c.if-not-layouts_ok.false,
  sym c.layouts_ok-2.ensures ∙ c.if-not-layouts_ok-2.true,
)

pub returns-then-not-layouts_ok-3 : goal.returns-then-not-layouts_ok-3
unfolding layout_ok
returns-then-not-layouts_ok-3 c = rw (
  sym c.layouts_ok.ensures ∙ c.if-not-layouts_ok.false,
  sym c.layouts_ok-2.ensures ∙ c.if-not-layouts_ok-2.false,
  sym c.layouts_ok-3.ensures ∙ c.if-not-layouts_ok-3.true,
)

pub returns-then-not-layouts_ok-4 : goal.returns-then-not-layouts_ok-4
unfolding layout_ok
returns-then-not-layouts_ok-4 c = rw (
  sym c.layouts_ok.ensures ∙ c.if-not-layouts_ok.false,
  sym c.layouts_ok-2.ensures ∙ c.if-not-layouts_ok-2.false,
  sym c.layouts_ok-3.ensures ∙ c.if-not-layouts_ok-3.false,
  sym c.layouts_ok-4.ensures ∙ c.if-not-layouts_ok-4.true,
)

pub returns : goal.returns
unfolding layout_ok
returns c = rw (
  sym c.layouts_ok.ensures ∙ c.if-not-layouts_ok.false,
  sym c.layouts_ok-2.ensures ∙ c.if-not-layouts_ok-2.false,
  sym c.layouts_ok-3.ensures ∙ c.if-not-layouts_ok-3.false,
  sym c.layouts_ok-4.ensures ∙ c.if-not-layouts_ok-4.false,
)
