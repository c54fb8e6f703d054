-- A valid catalogue has one type id for an integer class and a width. Assumes nothing.
use Prim.Native.Nat.{ℕ, zero, suc, ◌+◌, ◌*◌, ◌≤◌, ◌<◌}
use native.Mathlib.Nat.{zero-add, not-suc-le-zero}
use native.Mathlib.Omega.{arith}
use mathlib.Core.Path.{◌≡◌, refl, sym, ap, subst}
use mathlib.Core.Bool.{Bool, true, false, ◌&&◌, ◌||◌, false≢true}
use mathlib.Core.List.{List}
use borrow.Author.Tests.{eqb-true, le-leb}
use lib.Dec.{eqb}
use Rattle.lent.specs.Bytes.{byte_at}
use Rattle.lent.specs.Scan.{gather, tally}
use Rattle.lent.proofs.Scan.{both}
use Rattle.catalogue.proofs.Valid.{valid, integer-class, integer-width}
use Rattle.catalogue.specs.Catalogue.{unsigned, signed, class_of, width_of, is_width, within, count_kind, one_each, catalogue_ok}

-- ---- one of many

there : {A : Type 0} (test : A → Bool) (read : ℕ → A) (at n i : ℕ) → i < n → test (read (at + i)) ≡ true → 1 ≤ tally test (gather read 1 at n)
unfolding gather tally
there test read at zero i h e = absurd (not-suc-le-zero h)
there test read at (suc n) zero h e =
    let z : at + 0 ≡ at = omega arith in
    let f : test (read at) ≡ true = rw z at e in
    rw f (omega arith)
there test read at (suc n) (suc i) h e =
    let z : at + suc i ≡ at + 1 + i = omega arith in
    let ih = there test read (at + 1) n i (omega arith) (rw z at e) in
    omega arith

-- where the first passes the test, and one at most, no other does
no_other : {A : Type 0} (test : A → Bool) (read : ℕ → A) (at n i : ℕ) → tally test (gather read 1 at (suc n)) ≤ 1 → i < n
    → test (read (at + 0)) ≡ true → test (read (at + suc i)) ≡ true → ⊥
unfolding gather tally
no_other test read at n i c h e f =
    let z : at + 0 ≡ at = omega arith in
    let y : at + suc i ≡ at + 1 + i = omega arith in
    let g : test (read at) ≡ true = rw z at e in
    let d : 1 + tally test (gather read 1 (at + 1) n) ≤ 1 = rw g at c in
    let m = there test read (at + 1) n i h (rw y at f) in
    omega arith

-- so two places that pass it are one
alone : {A : Type 0} (test : A → Bool) (read : ℕ → A) (at n i j : ℕ) → tally test (gather read 1 at n) ≤ 1 → i < n → j < n
    → test (read (at + i)) ≡ true → test (read (at + j)) ≡ true → i ≡ j
unfolding gather tally
alone test read at zero i j c h k e f = absurd (not-suc-le-zero h)
alone test read at (suc n) zero zero c h k e f = refl
alone test read at (suc n) zero (suc j) c h k e f = absurd (no_other test read at n j c (omega arith) e f)
alone test read at (suc n) (suc i) zero c h k e f = absurd (no_other test read at n i c (omega arith) f e)
alone test read at (suc n) (suc i) (suc j) c h k e f =
    let y : at + suc i ≡ at + 1 + i = omega arith in
    let x : at + suc j ≡ at + 1 + j = omega arith in
    ap suc (alone test read (at + 1) n i j (omega arith) (omega arith) (omega arith) (rw y at e) (rw x at f))

-- ---- cases

-- a width is one of four
pub width-cases : (P : ℕ → Type 0) (w : ℕ) → is_width w ≡ true → P 1 → P 2 → P 4 → P 8 → P w
width-cases P w e a b c d = go (eqb w 1) (eqb w 2) (eqb w 4) (eqb w 8) (eqb-true w 1) (eqb-true w 2) (eqb-true w 4) (eqb-true w 8) e where
  go : (s t u v : Bool) → (s ≡ true → w ≡ 1) → (t ≡ true → w ≡ 2) → (u ≡ true → w ≡ 4) → (v ≡ true → w ≡ 8) → (s || (t || (u || v))) ≡ true → P w
  go true t u v f g h k e = subst P (sym (f refl)) a
  go false true u v f g h k e = subst P (sym (g refl)) b
  go false false true v f g h k e = subst P (sym (h refl)) c
  go false false false true f g h k e = subst P (sym (k refl)) d
  go false false false false f g h k e = absurd (false≢true e)

-- ---- a valid catalogue

at_most_one : (c : List ℕ) (class w : ℕ) → one_each c class ≡ true → is_width w ≡ true → count_kind c class w ≤ 1
at_most_one c class w e h =
    let low : (j : ℕ) → eqb (count_kind c class j) 1 ≡ true → count_kind c class j ≤ 1 = λ j x. omega (arith, eqb-true (count_kind c class j) 1 x) in
    let last = eqb (count_kind c class 4) 1 && eqb (count_kind c class 8) 1 in
    let a = both (eqb (count_kind c class 1) 1) (eqb (count_kind c class 2) 1 && last) e in
    let b = both (eqb (count_kind c class 2) 1) last a.1 in
    let d = both (eqb (count_kind c class 4) 1) (eqb (count_kind c class 8) 1) b.1 in
    width-cases (λ j. count_kind c class j ≤ 1) w h (low 1 a.0) (low 2 b.0) (low 4 d.0) (low 8 d.1)

module _ (c : List ℕ) (ok : catalogue_ok c ≡ true) where
  -- two type ids of one integer class and one width are one
  pub one_type : (t u : ℕ) → t < 256 → u < 256 → (eqb (class_of c t) unsigned || eqb (class_of c t) signed) ≡ true
      → class_of c t ≡ class_of c u → width_of c t ≡ width_of c u → t ≡ u
  one_type t u h k e ec ew =
      let class = class_of c t in
      let w = width_of c t in
      let kind : ℕ = 16 * class + w in
      let v = valid c ok in
      let each : one_each c class ≡ true = integer-class class e (λ j. one_each c j ≡ true) v.one-unsigned v.one-signed in
      let few : count_kind c class w ≤ 1 = at_most_one c class w each (integer-width c ok t h e) in
      alone (within kind kind) (byte_at c) 0 256 t u few h k (rw zero-add (is kind (byte_at c t) (omega arith))) (rw zero-add (is kind (byte_at c u) (omega arith)))
    where
      is : (kind b : ℕ) → b ≡ kind → within kind kind b ≡ true
      is kind b z = rw (le-leb kind b (omega arith), le-leb b kind (omega arith))
