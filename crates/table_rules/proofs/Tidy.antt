-- A table that keeps every rule in one pass keeps each. Assumes nothing.
use mathlib.Core.Path.{◌≡◌, refl}
use mathlib.Core.Bool.{Bool, true, false, ◌&&◌}
use mathlib.Core.List.{List, [], ◌∷◌}
use Prim.Native.Nat.{ℕ}
use lib.Dec.{leb}
use Rattle.lent.specs.Scan.{every}
use Rattle.lent.proofs.Scan.{both}
use Rattle.field.specs.Field.{end_of}
use Rattle.field.specs.declared.FieldDef.{FieldDef}
use Rattle.table_rules.specs.Table.{reserved_zero, in_bounds, width_ok, table_ok}
use Rattle.table_rules.specs.Parts.{chain, alone, tidy}
use Rattle.table_rules.specs.declared.Rule.{Rule}
use Rattle.table_rules.specs.declared.Rule.TheVariants.{Reserved, Bounds, Apart, Width}
use Rattle.table_rules.proofs.Chained.{chain-apart}

-- ---- what a tidy table keeps

module _ (cat : List ℕ) (most : ℕ) where
  -- a test that each field alone passes
  each : (test : FieldDef → Bool) → ((f : FieldDef) → alone cat most f ≡ true → test f ≡ true)
      → (low : ℕ) (fs : List FieldDef) → tidy cat most low fs ≡ true → every test fs ≡ true
  unfolding tidy every
  each test h low [] e = refl
  each test h low (f ∷ fs) e =
      let z = both (leb low f.offset && alone cat most f) (tidy cat most (end_of f) fs) e in
      let y = both (leb low f.offset) (alone cat most f) z.0 in
      rw (h f y.1) (each test h (end_of f) fs z.1)

  follow : (low : ℕ) (fs : List FieldDef) → tidy cat most low fs ≡ true → chain low fs ≡ true
  unfolding tidy chain
  follow low [] e = refl
  follow low (f ∷ fs) e =
      let z = both (leb low f.offset && alone cat most f) (tidy cat most (end_of f) fs) e in
      let y = both (leb low f.offset) (alone cat most f) z.0 in
      rw y.0 (follow (end_of f) fs z.1)

  pub keeps : (rule : Rule) (fs : List FieldDef) → tidy cat most 0 fs ≡ true → table_ok rule cat most fs ≡ true
  keeps Reserved fs e = each reserved_zero (λ f h. (both (reserved_zero f) (in_bounds most f && width_ok cat f) h).0) 0 fs e
  keeps Bounds fs e =
      each (in_bounds most) (λ f h. (both (in_bounds most f) (width_ok cat f) (both (reserved_zero f) (in_bounds most f && width_ok cat f) h).1).0) 0 fs e
  keeps Apart fs e = chain-apart 0 fs (follow 0 fs e)
  keeps Width fs e =
      each (width_ok cat) (λ f h. (both (in_bounds most f) (width_ok cat f) (both (reserved_zero f) (in_bounds most f && width_ok cat f) h).1).1) 0 fs e

  -- ---- a turn of the loop

  module _ {left : List FieldDef} {all : Bool} (low : ℕ) (so : tidy cat most low left ≡ all) where
    pub tidy-stops : {f : FieldDef} {fs : List FieldDef} → left ≡ f ∷ fs → (leb low f.offset && alone cat most f) ≡ false → false ≡ all
    unfolding tidy
    tidy-stops e t = rw (e, t) at so

    pub tidy-goes : {f : FieldDef} {fs : List FieldDef} → left ≡ f ∷ fs → (leb low f.offset && alone cat most f) ≡ true → tidy cat most (end_of f) fs ≡ all
    unfolding tidy
    tidy-goes e t = rw (e, t) at so

    pub tidy-ends : left ≡ [] → true ≡ all
    unfolding tidy
    tidy-ends e = rw e at so
