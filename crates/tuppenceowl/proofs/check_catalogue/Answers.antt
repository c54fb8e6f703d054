use mathlib.Core.Path.{sym, ◌∙◌}
use Rattle.tuppenceowl.proofs.check_catalogue.Goals as goal

pub returns-then-catalogue_ok : goal.returns-then-catalogue_ok
returns-then-catalogue_ok c = rw (sym c.catalogue_ok.ensures ∙ c.if-catalogue_ok.true)

pub returns : goal.returns
returns c = rw (sym c.catalogue_ok.ensures ∙ c.if-catalogue_ok.false)
