-- A window that lies inside has an end that fits.
use Prim.Native.Nat.{◌+◌}
use borrow.Author.Tests.{leb-true}
use lib.ListN.{length}
use mathlib.Core.Path.{sym, ◌∙◌}
use native.Mathlib.Omega.{arith}
use Rattle.tuppenceowl.proofs.window.Goals as goal

pub overflow_add-result : goal.overflow_add-result
overflow_add-result c = let a = c.args in
    omega (arith, leb-true (a.offset + a.size) (length a.bytes.now) (sym c.has_window.ensures ∙ c.if-has_window.true))

pub returns-then-has_window : goal.returns-then-has_window
returns-then-has_window c = rw (sym c.has_window.ensures ∙ c.if-has_window.true)

pub returns : goal.returns
returns c = rw (sym c.has_window.ensures ∙ c.if-has_window.false)
