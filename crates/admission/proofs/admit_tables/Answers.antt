use Rattle.admission_rules.proofs.Tidy.{tidy-fine}
use mathlib.Core.Path.{sym, ◌∙◌}
use Rattle.admission.proofs.admit_tables.Goals as goal

pub returns-then-layouts_ok : goal.returns-then-layouts_ok
returns-then-layouts_ok c = tidy-fine _ _ (sym c.layouts_ok.ensures ∙ c.if-layouts_ok.true)

pub returns : goal.returns
returns c = c.admit_each.ensures
