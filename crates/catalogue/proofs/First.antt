-- A turn of the search for the first id of a class, and of the loop that takes the least. Assumes nothing.
use mathlib.Core.Path.{◌≡◌}
use mathlib.Core.Bool.{Bool, true, false, cond}
use mathlib.Core.List.{List}
use Prim.Native.Nat.{ℕ, zero, suc, ◌+◌, ◌-◌, ◌≤◌, ◌<◌, min}
use native.Mathlib.Omega.{arith}
use borrow.Author.Tests.{eq-eqb, ne_eqb}
use lib.Dec.{eqb}
use Rattle.catalogue.specs.Catalogue.{class_of, first_of}

module _ (c : List ℕ) (class id n all : ℕ) (so : first_of c class id n ≡ all) where
  turn : 0 < n → cond (eqb (class_of c id) class) id (first_of c class (id + 1) (n - 1)) ≡ all
  unfolding first_of
  turn h = let e : n ≡ suc (n - 1) = omega arith in rw e at so

  pub first-here : 0 < n → class_of c id ≡ class → id ≡ all
  first-here h e = rw (eq-eqb (class_of c id) class e) at (turn h)

  pub first-later : 0 < n → (class_of c id ≡ class → ⊥) → first_of c class (id + 1) (n - 1) ≡ all
  first-later h e = rw (ne_eqb (class_of c id) class e) at (turn h)

  pub first-last : n ≡ 0 → id ≡ all
  unfolding first_of
  first-last e = rw e at so

-- ---- the least of all ids of the class, 255 for those that are not

module _ (c : List ℕ) (class : ℕ) where
  not-before : (id n : ℕ) → id ≤ first_of c class id n
  unfolding first_of
  not-before id zero = omega arith
  not-before id (suc n) = go (eqb (class_of c id) class) (not-before (id + 1) n) where
    go : (p : Bool) → id + 1 ≤ first_of c class (id + 1) n → id ≤ cond p id (first_of c class (id + 1) n)
    go true h = omega arith
    go false h = omega arith

  -- one id fewer is searched
  cut : (id n : ℕ) → min (id + n) (first_of c class id (suc n)) ≡ first_of c class id n
  unfolding first_of
  cut id zero = go (eqb (class_of c id) class) where
    go : (p : Bool) → min (id + 0) (cond p id (id + 1)) ≡ id
    go true = omega arith
    go false = omega arith
  cut id (suc n) = go (eqb (class_of c id) class) (cut (id + 1) n) where
    go : (p : Bool) → min (id + 1 + n) (first_of c class (id + 1) (suc n)) ≡ first_of c class (id + 1) n
        → min (id + suc n) (cond p id (first_of c class (id + 1) (suc n))) ≡ cond p id (first_of c class (id + 1) n)
    go true h = omega arith
    go false h = omega arith

  pub least-starts : min 255 (first_of c class 0 256) ≡ first_of c class 0 255
  least-starts = cut 0 255

  module _ (best id all : ℕ) (small : best ≤ 255) (so : min best (first_of c class id (256 - id)) ≡ all) where
    pub least-goes : id < 256 → (b : ℕ) → b ≡ min best (cond (eqb (class_of c id) class) id 255) → (b ≤ 255) × (min b (first_of c class (id + 1) (256 - (id + 1))) ≡ all)
    unfolding first_of
    least-goes h b e =
        let n : 256 - id ≡ suc (256 - (id + 1)) = omega arith in
        let z : min best (cond (eqb (class_of c id) class) id (first_of c class (id + 1) (256 - (id + 1)))) ≡ all = rw n at so in
        go (eqb (class_of c id) class) e z (not-before (id + 1) (256 - (id + 1))) where
          go : (p : Bool) → b ≡ min best (cond p id 255) → min best (cond p id (first_of c class (id + 1) (256 - (id + 1)))) ≡ all
              → id + 1 ≤ first_of c class (id + 1) (256 - (id + 1)) → (b ≤ 255) × (min b (first_of c class (id + 1) (256 - (id + 1))) ≡ all)
          go true e z l = (omega arith, omega arith)
          go false e z l = (omega arith, omega arith)

    pub least-ends : 256 ≤ id → best ≡ all
    unfolding first_of
    least-ends h =
        let n : 256 - id ≡ 0 = omega arith in
        let z : min best id ≡ all = rw n at so in
        omega arith
