use Rattle.admission_rules.specs.Admission.{admit_all}
use mathlib.Core.Path.{sym, ◌∙◌}
use Rattle.admission.proofs.admit_given.Goals as goal

pub returns-then-not-catalogue_ok : goal.returns-then-not-catalogue_ok
unfolding admit_all
returns-then-not-catalogue_ok c = rw (sym c.catalogue_ok.ensures ∙ c.if-not-catalogue_ok.true)

pub returns-then-not-shapes_ok : goal.returns-then-not-shapes_ok
unfolding admit_all
returns-then-not-shapes_ok c = rw (
  sym c.catalogue_ok.ensures ∙ c.if-not-catalogue_ok.false,
  sym c.shapes_ok.ensures ∙ c.if-not-shapes_ok.true,
)

pub returns : goal.returns
unfolding admit_all
returns c = rw (
  sym c.catalogue_ok.ensures ∙ c.if-not-catalogue_ok.false,
  sym c.shapes_ok.ensures ∙ c.if-not-shapes_ok.false,
)
    c.admit_tables.ensures
