-- The window where `has_window` says that it lies inside.
use Prim.Native.Nat.{ℕ, ◌+◌, ◌≤◌}
use Rattle.lent.proofs.Bytes.{part_in, part_out}
use Rattle.lent.specs.Bytes.{has_window}
use borrow.Author.Tests.{leb-true, leb-false}
use lib.ListN.{length}
use mathlib.Core.Bool.{Bool, true}
use mathlib.Core.List.{List}
use mathlib.Core.Path.{◌≡◌, sym, ◌∙◌}
use native.Mathlib.Omega.{arith}
use Rattle.lent.proofs.part.Goals as goal

inside : (s : List ℕ) (at n : ℕ) (r : Bool) → r ≡ has_window s at n → r ≡ true → at + n ≤ length s
inside s at n r e t = leb-true (at + n) (length s) (sym e ∙ t)

pub overflow_add-end : goal.overflow_add-end
overflow_add-end c = omega (arith, inside c.args.s.now c.args.at c.args.n c.has_window.result c.has_window.ensures c.if-has_window.true)

pub slice_bounds-result-end : goal.slice_bounds-result-end
slice_bounds-result-end c = omega (arith, inside c.args.s.now c.args.at c.args.n c.has_window.result c.has_window.ensures c.if-has_window.true)

pub returns-then-has_window : goal.returns-then-has_window
returns-then-has_window c = part_in c.args.s.now c.args.at c.args.n (inside c.args.s.now c.args.at c.args.n c.has_window.result c.has_window.ensures c.if-has_window.true)

pub returns : goal.returns
returns c = part_out c.args.s.now c.args.at c.args.n (leb-false _ _ (sym c.has_window.ensures ∙ c.if-has_window.false))
