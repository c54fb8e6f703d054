-- The index of first places: a turn of its filling, and what an entry says of an id. Assumes nothing.
use mathlib.Core.Path.{◌≡◌, refl, sym, ap, ◌∙◌}
use mathlib.Core.Bool.{Bool, true, false, cond}
use mathlib.Core.List.{List}
use Prim.Native.Nat.{ℕ, ◌+◌, ◌-◌, ◌*◌, ◌/◌, ◌%◌, ◌≤◌, ◌<◌}
use native.Mathlib.Omega.{arith}
use borrow.Author.Tests.{eqb-true, eqb-false, eq-eqb}
use lib.Dec.{eqb}
use lib.ListN.{length, get_or, set, replicate, get_or-replicate}
use lib.Seq.{get_or-set_same, get_or-set_other}
use Rattle.std.specs.Prelude.{Some, None}
use Rattle.std.specs.declared.option.Option.{Option}
use Rattle.std.specs.List.{position_from}
use Rattle.field.specs.Field.{field_at, fields_of}
use Rattle.field.specs.declared.FieldDef.{FieldDef}
use Rattle.places.specs.Places.{has_id, has_low, place_of, IndexOf}
use Rattle.places.proofs.Firsts.{fields_from, from-turn, from_start, from_end, none_at_all, same_place}

low-too : (id : ℕ) (f : FieldDef) → has_id id f ≡ true → has_low (id % 256) f ≡ true
low-too id f e = eq-eqb (f.field_id % 256) (id % 256) (ap (λ (x : ℕ). x % 256) (eqb-true f.field_id id e))

-- ---- what an entry says

module _ (t : List ℕ) (firsts : List (Option ℕ)) (so : IndexOf (fields_of t) firsts) (id : ℕ) where
  pub entry : (e : Option ℕ) → get_or firsts (id % 256) None ≡ e → position_from (has_low (id % 256)) 0 (fields_of t) ≡ e
  entry e is = sym (so (id % 256) (omega arith)) ∙ is

  pub not_there : get_or firsts (id % 256) None ≡ None → place_of id (fields_of t) ≡ None
  not_there is = none_at_all (has_id id) (has_low (id % 256)) (low-too id) 0 (fields_of t) (entry None is)

  pub is-there : (e : ℕ) → get_or firsts (id % 256) None ≡ Some e → (field_at t (16 * e)).field_id ≡ id → place_of id (fields_of t) ≡ Some e
  is-there e is h =
      let at : 0 + 16 * (e - 0) ≡ 16 * e = omega arith in
      same_place (has_id id) (has_low (id % 256)) (low-too id) (field_at t) 0 0 (length t / 16) e (entry (Some e) is) (rw at (eq-eqb _ id h))

-- ---- filled from the last field to the first

-- the entries of the fields from place k on
abbrev pub IndexFrom : List ℕ → List (Option ℕ) → ℕ → Type 0
IndexFrom t firsts k = (low : ℕ) → low < 256 → get_or firsts low None ≡ position_from (has_low low) k (fields_from t k)

-- no field, no entry
pub none_yet : (t : List ℕ) (k : ℕ) → length t / 16 ≤ k → IndexFrom t (replicate {A = Option ℕ} 256 None) k
none_yet t k h low l = rw (from_end t k h) (get_or-replicate 256 low None None l)

-- a field's entry goes over those of the fields after it: the first of a low byte stays
pub put_first : (t : List ℕ) (firsts : List (Option ℕ)) (k low : ℕ) → IndexFrom t firsts (k + 1) → k < length t / 16 → length firsts ≡ 256
    → low ≡ (field_at t (16 * k)).field_id % 256 → IndexFrom t (set firsts low (Some k)) k
put_first t firsts k low so h size here i l =
    rw (from-turn t k h, ← here) (go (eqb low i) (eqb-true low i) (eqb-false low i)) where
      go : (p : Bool) → (p ≡ true → low ≡ i) → (p ≡ false → low ≡ i → ⊥)
          → get_or (set firsts low (Some k)) i None ≡ cond p (Some k) (position_from (has_low i) (k + 1) (fields_from t (k + 1)))
      go true same other = rw (same refl) (get_or-set_same firsts i (Some k) None (omega arith))
      go false same other = get_or-set_other firsts low i (Some k) None (λ z. other refl (sym z)) ∙ so i l

pub all_in : (t : List ℕ) (firsts : List (Option ℕ)) (k : ℕ) → IndexFrom t firsts k → k ≡ 0 → IndexOf (fields_of t) firsts
all_in t firsts k so e i l = so i l ∙ rw (from_start t k e, e)
