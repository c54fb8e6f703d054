-- Refusal 2: the shape of a block, head by head.
use Rattle.std.specs.Prelude.{ℕ, ◌+◌, ◌*◌, ◌/◌, ◌%◌, Bool, ◌&&◌, List, leb, eqb, length}
use Rattle.limits.specs.Limits.{max_bytes, max_fields, max_struct_fields, max_records, max_structs, max_name}
use Rattle.lent.specs.Bytes.{byte_at, number_at, has_window}
use Rattle.lent.specs.Scan.{places, every}
use Rattle.layout.specs.Layout.{start_at, length_at, count_of, heads_from, heads}
use Rattle.field.specs.declared.Holder.{Holder}
use Rattle.field.specs.declared.Holder.TheVariants.{Record, Struct}

-- a name of at most 32 bytes
abbrev pub name_ok : List ℕ → ℕ → Bool
name_ok l at = leb (byte_at l at) max_name

-- a part that lies inside the block
abbrev pub part_ok : List ℕ → ℕ → Bool
part_ok l at = has_window l (start_at l at) (length_at l at)

-- a table inside the block, of whole fields and not too many
abbrev pub table_shape : List ℕ → ℕ → ℕ → Bool
table_shape l at most = part_ok l at && (eqb (length_at l at % 16) 0 && leb (length_at l at) (16 * most))

-- names inside the block, as many as the table at `at` has fields
abbrev pub names_match : List ℕ → ℕ → Bool
names_match l at = part_ok l (at + 8) && eqb (length_at l (at + 8)) (33 * (length_at l at / 16))

-- and each of at most 32 bytes
abbrev pub names_shape : List ℕ → ℕ → Bool
names_shape l at = names_match l at && every (name_ok l) (places 33 (start_at l (at + 8)) (length_at l at / 16))

-- a record's base, name, table and field names
unfoldable pub record_shape : List ℕ → ℕ → Bool
record_shape l h =
    leb (number_at l (h + 4) 4) max_bytes && (name_ok l (h + 32) && (table_shape l (h + 16) max_fields && names_shape l (h + 16)))

-- a struct's size, name and table
unfoldable pub struct_shape : List ℕ → ℕ → Bool
struct_shape l h = leb (number_at l h 4) max_bytes && (name_ok l (h + 12) && table_shape l (h + 4) max_struct_fields)

abbrev pub head_shape : Holder → List ℕ → ℕ → Bool
head_shape Record l h = record_shape l h
head_shape Struct l h = struct_shape l h

-- not too many records and structs, and their heads inside the block
abbrev pub counts_ok : List ℕ → Bool
counts_ok l =
    leb (count_of Record l) max_records
    && (leb (count_of Struct l) max_structs && leb (heads_from Struct l + 48 * count_of Struct l) (length l))

unfoldable pub shape_ok : List ℕ → Bool
shape_ok l = counts_ok l && (every (head_shape Record l) (heads Record l) && every (head_shape Struct l) (heads Struct l))
