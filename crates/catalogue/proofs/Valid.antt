-- What a valid catalogue gives, rule by rule, and what it says of integers' widths. Assumes nothing.
use mathlib.Core.Path.{◌≡◌, refl, sym, subst}
use mathlib.Core.Bool.{Bool, true, false, ◌&&◌, ◌||◌, false≢true}
use mathlib.Core.List.{List}
use Prim.Native.Nat.{ℕ, ◌+◌, ◌*◌, ◌<◌}
use native.Mathlib.Omega.{arith}
use borrow.Author.Tests.{eqb-true}
use lib.Dec.{eqb}
use lib.ListN.{length}
use Rattle.lent.specs.Bytes.{byte_at}
use Rattle.lent.specs.Scan.{every}
use Rattle.lent.proofs.Scan.{both, nth}
use Rattle.catalogue.specs.Catalogue.{unsigned, signed, class_of, width_of, kinds, array_flag, extension_flag, is_width, kind_ok, one_each, others_ok, flags_ok, catalogue_ok}

pub record Valid (c : List ℕ) : Type 0 where
  pub kinds-ok : every kind_ok (kinds c) ≡ true
  pub one-unsigned : one_each c unsigned ≡ true
  pub one-signed : one_each c signed ≡ true
  pub others : others_ok c ≡ true

pub valid : (c : List ℕ) → catalogue_ok c ≡ true → Valid c
unfolding catalogue_ok
valid c ok =
    let signs = one_each c signed && others_ok c in
    let ints = one_each c unsigned && signs in
    let all = every kind_ok (kinds c) && ints in
    let a = (both (eqb (length c) 262) (flags_ok (array_flag c) (extension_flag c) && all) ok).1 in
    let b = (both (flags_ok (array_flag c) (extension_flag c)) all a).1 in
    let d = both (every kind_ok (kinds c)) ints b in
    let e = both (one_each c unsigned) signs d.1 in
    let f = both (one_each c signed) (others_ok c) e.1 in
    record { kinds-ok = d.0; one-unsigned = e.0; one-signed = f.0; others = f.1 }

-- an integer's class is one of two
pub integer-class : (k : ℕ) → (eqb k unsigned || eqb k signed) ≡ true → (P : ℕ → Type 0) → P unsigned → P signed → P k
integer-class k e P x y = go (eqb k 1) (eqb k 2) (eqb-true k 1) (eqb-true k 2) e where
  go : (s t : Bool) → (s ≡ true → k ≡ 1) → (t ≡ true → k ≡ 2) → (s || t) ≡ true → P k
  go true t f g z = subst P (sym (f refl)) x
  go false true f g z = subst P (sym (g refl)) y
  go false false f g z = absurd (false≢true z)

-- its width is 1, 2, 4 or 8
pub integer-width : (c : List ℕ) → catalogue_ok c ≡ true → (id : ℕ) → id < 256 → (eqb (class_of c id) unsigned || eqb (class_of c id) signed) ≡ true → is_width (width_of c id) ≡ true
integer-width c ok id h e = integer-class (class_of c id) e (λ k. class_of c id ≡ k → is_width (width_of c id) ≡ true) first second refl where
  kind : kind_ok (byte_at c id) ≡ true
  kind = let z : 0 + 1 * id ≡ id = omega arith in rw z at (nth kind_ok (byte_at c) 1 0 256 id h (valid c ok).kinds-ok)

  front : (a b : Bool) → (a || (b && false)) ≡ true → a ≡ true
  front true b z = refl
  front false true z = absurd (false≢true z)
  front false false z = absurd (false≢true z)

  first : class_of c id ≡ unsigned → is_width (width_of c id) ≡ true
  first z = front (is_width (width_of c id)) (eqb (width_of c id) 0) (rw z at kind)

  second : class_of c id ≡ signed → is_width (width_of c id) ≡ true
  second z = front (is_width (width_of c id)) (eqb (width_of c id) 0) (rw z at kind)
