-- What a valid catalogue and the flags give: the padding id is padding, and a flag more leaves an array one. Assumes nothing.
use mathlib.Core.Path.{◌≡◌, refl}
use mathlib.Core.Bool.{Bool, true, false, cond, not, ◌&&◌, ◌||◌, false≢true}
use mathlib.Core.List.{List}
use Prim.Native.Nat.{ℕ, zero, suc, ◌+◌, ◌*◌, ◌/◌, ◌%◌, ◌≤◌, ◌<◌, min, max}
use native.Mathlib.Omega.{arith}
use borrow.Author.Tests.{ne_eqb, eqb-true, eqb-false, leb-true}
use lib.Bits.{bit_and, bit_or, and_step, or_step, and_zero_l}
use lib.Dec.{leb, eqb}
use Rattle.lent.specs.Bytes.{byte_at}
use Rattle.lent.specs.Scan.{gather, tally}
use Rattle.lent.proofs.Scan.{both}
use Rattle.catalogue.proofs.Valid.{valid}
use Rattle.catalogue.specs.Catalogue.{is_width, class_of, within, first_of, id_of, padding, catalogue_ok, count_class, decimal, string, struct}

-- ---- flags

-- by halves: as many as `most`
keeps : (most a e m : ℕ) → a ≤ most → bit_and a m ≤ bit_and (bit_or a e) m
keeps zero a e m h = let z : a ≡ 0 = omega arith in rw (z, and_zero_l m) (omega arith)
keeps (suc most) a e m h =
    let o : bit_or a e ≡ bit_or (a / 2) (e / 2) * 2 + max (a % 2) (e % 2) = or_step a e in
    let d : bit_or a e / 2 ≡ bit_or (a / 2) (e / 2) = omega arith in
    let p : bit_or a e % 2 ≡ max (a % 2) (e % 2) = omega arith in
    let l : bit_and a m ≡ bit_and (a / 2) (m / 2) * 2 + min (a % 2) (m % 2) = and_step a m in
    let r : bit_and (bit_or a e) m ≡ bit_and (bit_or (a / 2) (e / 2)) (m / 2) * 2 + min (max (a % 2) (e % 2)) (m % 2) = rw (← d, ← p) (and_step (bit_or a e) m) in
    let k : bit_and (a / 2) (m / 2) ≤ bit_and (bit_or (a / 2) (e / 2)) (m / 2) = keeps most (a / 2) (e / 2) (m / 2) (omega arith) in
    omega arith

pub or-keeps : (a e m : ℕ) → bit_and a m ≤ bit_and (bit_or a e) m
or-keeps a e m = keeps a a e m (omega arith)

-- ---- the padding id

module _ (c : List ℕ) where
  found : (id n : ℕ) → tally (within 96 111) (gather (byte_at c) 1 id (suc n)) ≡ 1 → class_of c (first_of c padding id n) ≡ padding
  unfolding first_of gather tally
  found id zero e = go (within 96 111 (byte_at c id)) (both (leb 96 (byte_at c id)) (leb (byte_at c id) 111)) e where
    go : (p : Bool) → (p ≡ true → (leb 96 (byte_at c id) ≡ true) × (leb (byte_at c id) 111 ≡ true)) → cond p 1 0 + 0 ≡ 1 → byte_at c id / 16 ≡ 6
    go true h e =
        let l : 96 ≤ byte_at c id = leb-true 96 (byte_at c id) (h refl).0 in
        let g : byte_at c id ≤ 111 = leb-true (byte_at c id) 111 (h refl).1 in
        omega arith
    go false h e = absurd (let z : ⊥ = omega arith in z)
  found id (suc n) e =
      go (eqb (class_of c id) padding) (eqb-true (class_of c id) padding) (eqb-false (class_of c id) padding) e (found (id + 1) n) where
        skip : (p : Bool) → (p ≡ true → (leb 96 (byte_at c id) ≡ true) × (leb (byte_at c id) 111 ≡ true)) → (byte_at c id / 16 ≡ 6 → ⊥)
            → cond p 1 0 + tally (within 96 111) (gather (byte_at c) 1 (id + 1) (suc n)) ≡ 1 → tally (within 96 111) (gather (byte_at c) 1 (id + 1) (suc n)) ≡ 1
        skip true h no-pad e =
            let l : 96 ≤ byte_at c id = leb-true 96 (byte_at c id) (h refl).0 in
            let g : byte_at c id ≤ 111 = leb-true (byte_at c id) 111 (h refl).1 in
            absurd (no-pad (omega arith))
        skip false h no-pad e = omega arith

        go : (p : Bool) → (p ≡ true → class_of c id ≡ padding) → (p ≡ false → class_of c id ≡ padding → ⊥)
            → cond (within 96 111 (byte_at c id)) 1 0 + tally (within 96 111) (gather (byte_at c) 1 (id + 1) (suc n)) ≡ 1
            → (tally (within 96 111) (gather (byte_at c) 1 (id + 1) (suc n)) ≡ 1 → class_of c (first_of c padding (id + 1) n) ≡ padding)
            → class_of c (cond p id (first_of c padding (id + 1) n)) ≡ padding
        go true y n e ih = y refl
        go false y n e ih = ih (skip (within 96 111 (byte_at c id)) (both (leb 96 (byte_at c id)) (leb (byte_at c id) 111)) (n refl) e)

  module _ (ok : catalogue_ok c ≡ true) where
    pub padding-class : class_of c (id_of c padding) ≡ padding
    padding-class =
        let rest = eqb (count_class c struct) 1 && eqb (count_class c padding) 1 in
        let a = (both (eqb (count_class c decimal) 1) (eqb (count_class c string) 2 && rest) (valid c ok).others).1 in
        let b = (both (eqb (count_class c string) 2) rest a).1 in
        found 0 255 (eqb-true (count_class c padding) 1 (both (eqb (count_class c struct) 1) (eqb (count_class c padding) 1) b).1)

-- ---- the size of a field that is taken

pub size-there : (size : ℕ) (rest : Bool) → (not (eqb size 0) && rest) ≡ true → 0 < size
size-there zero rest e = absurd (false≢true e)
size-there (suc size) rest e = omega arith

-- an integer that is no array has its width, also when a flag more was set: x and y are what the flags share with the array flag
module _ (class w x y size : ℕ) (more : x ≤ y) (wide : (eqb class 1 || eqb class 2) ≡ true → is_width w ≡ true) where
  never : (a : Bool) → (not (a && false) || eqb size w) ≡ true
  never true = refl
  never false = refl

  or-true : (a : Bool) → (a || true) ≡ true
  or-true true = refl
  or-true false = refl

  no-integer : w ≡ 0 → (eqb class 1 || eqb class 2) ≡ false
  no-integer e = go (eqb class 1 || eqb class 2) wide where
    go : (p : Bool) → (p ≡ true → is_width w ≡ true) → p ≡ false
    go true h = absurd (false≢true (rw e at (h refl)))
    go false h = refl

  pub width-kept : (not (eqb size 0) && (not (eqb x 0) || (eqb w 0 || eqb size w))) ≡ true
      → (not ((eqb class 1 || eqb class 2) && not (not (eqb y 0))) || eqb size w) ≡ true
  width-kept e = array (eqb x 0) (eqb-false x 0) (both (not (eqb size 0)) (not (eqb x 0) || (eqb w 0 || eqb size w)) e).1 where
    sized : (p : Bool) → (p ≡ true → w ≡ 0) → (p || eqb size w) ≡ true → (not ((eqb class 1 || eqb class 2) && not (not (eqb y 0))) || eqb size w) ≡ true
    sized true h e = rw (no-integer (h refl))
    sized false h e = rw e (or-true (not ((eqb class 1 || eqb class 2) && not (not (eqb y 0)))))

    array : (p : Bool) → (p ≡ false → x ≡ 0 → ⊥) → (not p || (eqb w 0 || eqb size w)) ≡ true
        → (not ((eqb class 1 || eqb class 2) && not (not (eqb y 0))) || eqb size w) ≡ true
    array false h e = rw (ne_eqb y 0 (λ k. h refl (omega arith))) (never (eqb class 1 || eqb class 2))
    array true h e = sized (eqb w 0) (eqb-true w 0) e
