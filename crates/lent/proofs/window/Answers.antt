-- Inside, across the end, past it (Bytes.antt).
use Rattle.lent.proofs.Bytes.{window-cut, window-in, window-past}
use borrow.Author.Tests.{leb-false}
use mathlib.Core.Path.{◌∙◌, sym}
use Rattle.lent.proofs.window.Goals as goal

pub returns-then-has_window : goal.returns-then-has_window
returns-then-has_window c = c.part.ensures ∙ window-in c.args.s.now c.args.at c.args.n (sym c.has_window.ensures ∙ c.if-has_window.true)

pub returns-then-at-end : goal.returns-then-at-end
returns-then-at-end c = window-cut c.args.s.now c.args.at c.args.n (leb-false _ _ (sym c.has_window.ensures ∙ c.if-has_window.false))

pub returns : goal.returns
returns c = window-past c.args.s.now c.args.at c.args.n c.if-at-end.false
