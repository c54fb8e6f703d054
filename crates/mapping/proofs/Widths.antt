-- Widths: which there are. Assumes nothing.
use mathlib.Core.Path.{◌≡◌, refl}
use mathlib.Core.Bool.{Bool, true, false, ◌||◌}
use Prim.Native.Nat.{ℕ, ◌≤◌}
use native.Mathlib.Omega.{arith}
use lib.Dec.{eqb}
use borrow.Author.Tests.{eqb-true, ne_eqb}
use Rattle.catalogue.specs.Catalogue.{is_width}

-- a width that is none of the others is 8
pub eight-left : (n : ℕ) → is_width n ≡ true → (n ≡ 1 → ⊥) → (n ≡ 2 → ⊥) → (n ≡ 4 → ⊥) → n ≡ 8
eight-left n w a b d = eqb-true n 8 (rw (ne_eqb n 1 a, ne_eqb n 2 b, ne_eqb n 4 d) at w)

or_cases : (a b : Bool) {A : Type 0} → (a ≡ true → A) → (b ≡ true → A) → (a || b) ≡ true → A
or_cases true b f g e = f refl
or_cases false b f g e = g e

pub width-range : (n : ℕ) → is_width n ≡ true → (1 ≤ n) × (n ≤ 8)
width-range n =
    or_cases (eqb n 1) (eqb n 2 || (eqb n 4 || eqb n 8)) (λ e. let z = eqb-true n 1 e in (omega arith, omega arith))
    (or_cases (eqb n 2) (eqb n 4 || eqb n 8) (λ e. let z = eqb-true n 2 e in (omega arith, omega arith))
    (or_cases (eqb n 4) (eqb n 8) (λ e. let z = eqb-true n 4 e in (omega arith, omega arith)) (λ e. let z = eqb-true n 8 e in (omega arith, omega arith))))
