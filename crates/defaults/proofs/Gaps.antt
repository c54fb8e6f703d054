-- A byte of a default body that is not zero lies in a field, and so does what follows it there. Assumes nothing.
use mathlib.Core.Path.{◌≡◌, refl}
use mathlib.Core.Bool.{Bool, true, false, cond, ◌&&◌, ◌||◌}
use mathlib.Core.List.{List, [], ◌∷◌}
use Prim.Native.Nat.{ℕ, ◌+◌, ◌-◌, ◌≤◌, ◌<◌}
use native.Mathlib.Omega.{arith}
use lib.Dec.{leb, ltb, eqb}
use lib.ListN.{length}
use borrow.Author.Tests.{leb-true, ltb-true, le-leb, lt-ltb, ne_eqb}
use Rattle.lent.specs.Bytes.{byte_at, number_at}
use Rattle.lent.specs.Scan.{every, some, first, places}
use Rattle.lent.proofs.Bytes.{number-zero}
use Rattle.lent.proofs.Scan.{both, passes, stops}
use Rattle.field.specs.declared.FieldDef.{FieldDef}
use Rattle.field.specs.Field.{counts}
use Rattle.defaults.specs.Defaults.{holds, covered, cover_end}

or-true : (b : Bool) → (b || true) ≡ true
or-true true = refl
or-true false = refl

-- all from byte i to the end of the field that holds it is covered
covers : (cat : List ℕ) (fs : List FieldDef) (i j : ℕ) → i ≤ j → j < cover_end cat fs i → covered cat fs j ≡ true
unfolding first some
covers cat [] i j le lt = absurd (let z : ⊥ = omega arith in z)
covers cat (f ∷ fs) i j le lt = go (covers cat fs i j le) (counts cat f) (holds f i) refl refl lt where
  go : (j < cover_end cat fs i → covered cat fs j ≡ true) → (p q : Bool) → counts cat f ≡ p → holds f i ≡ q → j < cond (p && q) (f.offset + f.size) (cover_end cat fs i) → ((counts cat f && holds f j) || covered cat fs j) ≡ true
  go ih true true ep eq l =
      let start = leb-true f.offset i (both (leb f.offset i) (ltb i (f.offset + f.size)) eq).0 in
      rw (ep, le-leb f.offset j (omega arith), lt-ltb j (f.offset + f.size) l)
  go ih true false ep eq l = rw (ih l) (or-true (counts cat f && holds f j))
  go ih false q ep eq l = rw (ih l) (or-true (counts cat f && holds f j))

-- where no field ends later, none holds the byte
bare : (cat : List ℕ) (fs : List FieldDef) (i : ℕ) → cover_end cat fs i ≤ i → covered cat fs i ≡ false
unfolding first some
bare cat [] i le = refl
bare cat (f ∷ fs) i le = go (bare cat fs i) (counts cat f) (holds f i) refl refl le where
  go : (cover_end cat fs i ≤ i → covered cat fs i ≡ false) → (p q : Bool) → counts cat f ≡ p → holds f i ≡ q → cond (p && q) (f.offset + f.size) (cover_end cat fs i) ≤ i → ((p && q) || covered cat fs i) ≡ false
  go ih true true ep eq l = absurd (let end = ltb-true i (f.offset + f.size) (both (leb f.offset i) (ltb i (f.offset + f.size)) eq).1 in let z : ⊥ = omega arith in z)
  go ih true false ep eq l = ih l
  go ih false q ep eq l = ih l

-- ---- a turn at byte i of the body

module _ (cat : List ℕ) (fs : List FieldDef) (header : ℕ) (body : List ℕ) where
  -- a byte of the record that may stand there
  abbrev fine : ℕ → Bool
  fine i = covered cat fs i || eqb (byte_at body (i - header)) 0

  module _ (i : ℕ) (all : Bool) (so : every fine (places 1 (header + i) (length body - i)) ≡ all) where
    on : (m : ℕ) → ((j : ℕ) → header + i ≤ j → j < (header + i) + m → fine j ≡ true) → every fine (places 1 (header + (i + m)) (length body - (i + m))) ≡ all
    on m h =
        let e : header + (i + m) ≡ (header + i) + m = omega arith in
        let f : length body - (i + m) ≡ (length body - i) - m = omega arith in
        rw (e, f, passes fine (header + i) (length body - i) m h) so

    -- n bytes that hold zero
    pub zeros-pass : (n : ℕ) → number_at body i n ≡ 0 → every fine (places 1 (header + (i + n)) (length body - (i + n))) ≡ all
    zeros-pass n z = on n (λ j low high.
        let e : j - header ≡ i + (j - (header + i)) = omega arith in
        let b = number-zero body i n z (j - (header + i)) (omega arith) in
        rw (e, b) (or-true (covered cat fs j)))

    -- a field that holds the byte, to its end
    pub field-passes : (end : ℕ) → end ≡ cover_end cat fs (header + i) → header + i < end → every fine (places 1 (header + (end - header)) (length body - (end - header))) ≡ all
    field-passes end e lt =
        let m : end - header ≡ i + (end - (header + i)) = omega arith in
        rw m (on (end - (header + i)) (λ j low high. rw (covers cat fs (header + i) j low (omega (arith, e)))))

    -- a byte that is not zero, in no field
    pub gap-stops : i < length body → (byte_at body i ≡ 0 → ⊥) → cover_end cat fs (header + i) ≤ header + i → false ≡ all
    gap-stops lt nz none =
        let e : (header + i) - header ≡ i = omega arith in
        stops (λ place. place) 1 (header + i) (length body - i) fine all so (omega arith) (rw (bare cat fs (header + i) none, e) (ne_eqb (byte_at body i) 0 nz))
