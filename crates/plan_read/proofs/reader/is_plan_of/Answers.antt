use Rattle.plan_text.proofs.Whole.{held}
use mathlib.Core.Path.{◌∙◌, sym}
use Rattle.plan_read.proofs.reader.is_plan_of.Goals as goal

pub returns-then-not-is_ok : goal.returns-then-not-is_ok
returns-then-not-is_ok c = rw (sym c.is_ok.ensures ∙ c.if-not-is_ok.true)

pub is_text-requires : goal.is_text-requires
is_text-requires c = held c.args.slot.now (sym c.is_ok.ensures ∙ c.if-not-is_ok.false)

pub returns : goal.returns
returns c = rw (sym c.is_ok.ensures ∙ c.if-not-is_ok.false) c.is_text.ensures
