-- A lookup by id that answers none: no record of the rtype has a field of that id that isn't padding. Assumes nothing.
use Rattle.std.specs.Prelude.{None, Option, Some}
use mathlib.Core.Path.{◌≡◌, refl}
use mathlib.Core.Bool.{Bool, true, false, cond, not}
use mathlib.Core.List.{List, [], ◌∷◌, ◌++◌}
use Prim.Native.Nat.{ℕ}
use native.Mathlib.Omega.{arith}
use Rattle.lent.specs.Scan.{every, last}
use Rattle.lent.proofs.Scan.{both}
use Rattle.field.specs.declared.FieldDef.{FieldDef}
use Rattle.layout.specs.Layout.{RecordLayout, records}
use Rattle.index_rules.specs.Index.{fields_if_of, fields_of_rtype, has_id, by_id}

module _ (test : FieldDef → Bool) where
  chosen : (p : Bool) (f : FieldDef) (before : Option FieldDef) → cond p (Some f) before ≡ None → (not p ≡ true) × (before ≡ None)
  chosen true f before e = absurd (let z : ◌≡◌ {A = ℕ} 0 1 = cc in omega arith)
  chosen false f before e = (refl, e)

  none_passes : (before : Option FieldDef) (fs : List FieldDef) → last test Some before fs ≡ None
      → (before ≡ None) × (every (λ f. not (test f)) fs ≡ true)
  unfolding last every
  none_passes before [] e = (e, refl)
  none_passes before (f ∷ fs) e =
      let ih = none_passes (cond (test f) (Some f) before) fs e in
      let z = chosen (test f) f before ih.0 in
      (z.1, rw z.0 ih.1)

  split : (fs gs : List FieldDef) → every test (fs ++ gs) ≡ true → (every test fs ≡ true) × (every test gs ≡ true)
  unfolding every
  split [] gs e = (refl, e)
  split (f ∷ fs) gs e =
      let z = both (test f) (every test (fs ++ gs)) e in
      let ih = split fs gs z.1 in
      (rw z.0 ih.0, ih.1)

  -- what all fields of an rtype pass, each record's pass
  each-record : (rtype : ℕ) (rs : List RecordLayout) → every test (fields_of_rtype rtype rs) ≡ true → every (λ r. every test (fields_if_of rtype r)) rs ≡ true
  unfolding every fields_of_rtype
  each-record rtype [] e = refl
  each-record rtype (r ∷ rs) e =
      let z = split (fields_if_of rtype r) (fields_of_rtype rtype rs) e in
      rw z.0 (each-record rtype rs z.1)

pub absent : (cat l : List ℕ) (rtype id : ℕ) → by_id cat l rtype id ≡ None
    → every (λ r. every (λ f. not (has_id cat id f)) (fields_if_of rtype r)) (records l) ≡ true
unfolding by_id
absent cat l rtype id e =
    each-record (λ f. not (has_id cat id f)) rtype (records l) (none_passes (has_id cat id) None (fields_of_rtype rtype (records l)) e).1
