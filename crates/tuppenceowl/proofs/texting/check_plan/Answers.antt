use mathlib.Core.Path.{◌∙◌, sym}
use Rattle.tuppenceowl.proofs.texting.check_plan.Goals as goal

pub returns-then-is_ok : goal.returns-then-is_ok
returns-then-is_ok c = rw (sym c.is_ok.ensures ∙ c.if-is_ok.true)

pub returns : goal.returns
returns c = rw (sym c.is_ok.ensures ∙ c.if-is_ok.false)
