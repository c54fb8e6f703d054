use borrow.Author.Tests.{eq-eqb, ne_eqb}
use mathlib.Core.Path.{◌∙◌, sym}
use Rattle.calls.proofs.scale_of.Goals as goal

pub returns-then-class_of-eq-DECIMAL : goal.returns-then-class_of-eq-DECIMAL
returns-then-class_of-eq-DECIMAL c = rw (eq-eqb _ _ (sym c.class_of.ensures ∙ c.if-class_of-eq-DECIMAL.true))

pub returns : goal.returns
returns c = rw (ne_eqb _ _ (λ e. c.if-class_of-eq-DECIMAL.false (c.class_of.ensures ∙ e)))
