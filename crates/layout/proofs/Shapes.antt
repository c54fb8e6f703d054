-- What a layout of the right shape gives its readers. Assumes nothing.
use mathlib.Core.Path.{◌≡◌}
use mathlib.Core.Bool.{true, ◌&&◌}
use mathlib.Core.List.{List}
use Prim.Native.Nat.{ℕ, ◌+◌, ◌*◌, ◌%◌, ◌≤◌, ◌<◌}
use native.Mathlib.Omega.{arith}
use borrow.Author.Tests.{leb-true}
use lib.Dec.{leb, eqb}
use lib.ListN.{length}
use Rattle.limits.specs.Limits.{max_bytes, max_fields, max_struct_fields}
use Rattle.lent.specs.Bytes.{number_at}
use Rattle.lent.specs.Scan.{every}
use Rattle.lent.proofs.Bytes.{part_length}
use Rattle.lent.proofs.Scan.{both, nth}
use Rattle.layout.specs.Layout.{start_at, length_at, record_at, record_head, record_of, struct_at, count_of, heads_from, heads, FewFields}
use Rattle.layout.specs.Shape.{name_ok, part_ok, table_shape, names_shape, record_shape, struct_shape, head_shape, counts_ok, shape_ok}
use Rattle.field.specs.declared.Holder.TheVariants.{Record, Struct}

few : (l : List ℕ) (at most : ℕ) → table_shape l at most ≡ true → length_at l at ≤ 16 * most
few l at most e =
    leb-true _ _ (both (eqb (length_at l at % 16) 0) (leb (length_at l at) (16 * most)) (both (part_ok l at) _ e).1).1

module _ (l : List ℕ) (k : ℕ) (shaped : shape_ok l ≡ true) where
  each : (every (head_shape Record l) (heads Record l) ≡ true) × (every (head_shape Struct l) (heads Struct l) ≡ true)
  unfolding shape_ok
  each = both _ _ (both (counts_ok l) _ shaped).1

  -- a record's base, and what its head says besides
  parts : k < count_of Record l
      → (leb (record_of l k).base max_bytes ≡ true) × ((name_ok l (record_head k + 32) && (table_shape l (record_head k + 16) max_fields && names_shape l (record_head k + 16))) ≡ true)
  unfolding record_shape record_at
  parts h = both _ _ (nth (head_shape Record l) (λ (p : ℕ). p) 72 8 (count_of Record l) k h each.0)

  pub base-in-record : k < count_of Record l → (record_of l k).base ≤ max_bytes
  base-in-record h = leb-true _ _ (parts h).0

  -- no table has more fields than its limit
  pub few-in-record : k < count_of Record l → length (record_of l k).table ≤ 16 * max_fields
  unfolding record_at
  few-in-record h =
      let at : ℕ = record_head k in
      let y = (both (name_ok l (at + 32)) (table_shape l (at + 16) max_fields && names_shape l (at + 16)) (parts h).1).1 in
      let x = few l (at + 16) max_fields (both (table_shape l (at + 16) max_fields) (names_shape l (at + 16)) y).0 in
      omega (arith, part_length l (start_at l (at + 16)) (length_at l (at + 16)))

  pub few-in-struct : k < count_of Struct l → length (struct_at l (heads_from Struct l + 48 * k)).table ≤ 16 * max_struct_fields
  unfolding struct_shape struct_at
  few-in-struct h =
      let at : ℕ = heads_from Struct l + 48 * k in
      let z = nth (head_shape Struct l) (λ (p : ℕ). p) 48 (heads_from Struct l) (count_of Struct l) k h each.1 in
      let y = (both (name_ok l (at + 12)) (table_shape l (at + 4) max_struct_fields) (both (leb (number_at l at 4) max_bytes) _ z).1).1 in
      let x = few l (at + 4) max_struct_fields y in
      omega (arith, part_length l (start_at l (at + 4)) (length_at l (at + 4)))

pub shaped-few : (l : List ℕ) → shape_ok l ≡ true → FewFields l
shaped-few l e = record { few = λ k h. few-in-struct l k e h }
