-- Turns of the comparisons. Assumes nothing.
use mathlib.Core.Path.{◌≡◌, ap}
use mathlib.Core.Bool.{Bool, true, false}
use mathlib.Core.List.{List, map}
use Prim.Native.Nat.{ℕ, ◌+◌, ◌*◌, ◌/◌, ◌≤◌, ◌<◌}
use native.Mathlib.Omega.{arith}
use borrow.Author.Tests.{eq-eqb, ne_eqb, ltb-true}
use lib.ListN.{length, take, drop, get_or}
use Rattle.limits.specs.Limits.{max_struct_fields}
use Rattle.lent.specs.Scan.{gather, alike}
use Rattle.lent.proofs.Scan.{entry, no-entry, pair-stops, pair_goes, pairs_end}
use Rattle.field.specs.Field.{field_at}
use Rattle.field.specs.declared.FieldDef.{FieldDef}
use Rattle.field.specs.Order.{by_offset}
use Rattle.layout.specs.Layout.{StructLayout, struct_at, has_struct, heads_from, FewFields}
use Rattle.field.specs.declared.Holder.TheVariants.{Struct}
use Rattle.equal_rules.specs.Equal.{eq_except_def_index, struct_eq, field_eq}

-- ---- two structs

module _ (S C : StructLayout) (t u : List ℕ) (et : t ≡ S.table) (eu : u ≡ C.table) where
  pub sizes-differ : (S.size ≡ C.size → ⊥) → false ≡ struct_eq S C
  unfolding struct_eq
  sizes-differ h = rw (ne_eqb _ _ h)

  module _ (es : S.size ≡ C.size) where
    pub counts-differ : (length t / 16 ≡ length u / 16 → ⊥) → false ≡ struct_eq S C
    unfolding struct_eq
    counts-differ h = rw (eq-eqb _ _ es, ← et, ← eu, ne_eqb _ _ h)

    pub orders : (n : ℕ) (a b : List ℕ) → n ≡ length t / 16 → n ≡ length u / 16
        → map (field_at t) (take n a) ≡ by_offset (gather (field_at t) 16 0 n) → map (field_at u) (take n b) ≡ by_offset (gather (field_at u) 16 0 n)
        → alike eq_except_def_index (map (field_at t) (drop 0 (take n a))) (map (field_at u) (drop 0 (take n b))) ≡ struct_eq S C
    unfolding struct_eq
    orders n a b en em ea eb =
        let z : length t / 16 ≡ length u / 16 = omega arith in
        rw (eq-eqb _ _ es, ← et, ← eu, eq-eqb _ _ z, ea, eb, ← en, ← em)

module _ (F G : ℕ → FieldDef) (n k : ℕ) (a b : List ℕ) (all : Bool)
    (so : alike eq_except_def_index (map F (drop k (take n a))) (map G (drop k (take n b))) ≡ all) where
  module _ (fits : n ≤ length a) (fits' : n ≤ length b) (h : k < n) (x y : FieldDef) (ex : x ≡ F (get_or a k 0)) (ey : y ≡ G (get_or b k 0)) where
    pub order-stops : eq_except_def_index x y ≡ false → false ≡ all
    order-stops e =
        pair-stops eq_except_def_index all _ _ so (F (get_or a k 0)) _ (G (get_or b k 0)) _ (ap (map F) (entry a n k fits h)) (ap (map G) (entry b n k fits' h))
        (rw (ex, ey) at e)

    pub order-goes : eq_except_def_index x y ≡ true
        → alike eq_except_def_index (map F (drop (k + 1) (take n a))) (map G (drop (k + 1) (take n b))) ≡ all
    order-goes e =
        pair_goes eq_except_def_index all _ _ so (F (get_or a k 0)) _ (G (get_or b k 0)) _ (ap (map F) (entry a n k fits h)) (ap (map G) (entry b n k fits' h))
        (rw (ex, ey) at e)

  pub order-ends : n ≤ k → true ≡ all
  order-ends h = pairs_end eq_except_def_index all _ _ so (ap (map F) (no-entry a n k h)) (ap (map G) (no-entry b n k h))

-- ---- fields

-- fields of two ids are not equal
pub ids-differ : (cat s : List ℕ) (f : FieldDef) (c : List ℕ) (g : FieldDef) → (f.field_id ≡ g.field_id → ⊥) → false ≡ field_eq cat s f c g
unfolding field_eq eq_except_def_index
ids-differ cat s f c g h = rw (ne_eqb _ _ h)

-- a struct that a field names has few fields
pub few-named : (l : List ℕ) (f : FieldDef) → FewFields l → has_struct l f ≡ true → length (struct_at l (heads_from Struct l + 48 * f.def_index)).table ≤ 16 * max_struct_fields
few-named l f h e = let z = h.few f.def_index (ltb-true _ _ e) in omega arith
