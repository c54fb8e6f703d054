-- A layout in one block of bytes (docs/FORMATS.md): a head of 8 bytes, a head of 72 for each record, one of 48 for each struct, and
-- anywhere in the block the tables and the field names that the heads point at. Any bytes are a layout.
use Rattle.std.specs.Prelude.{ℕ, ◌+◌, ◌*◌, ◌/◌, ◌<◌, ◌≤◌, Bool, List, map, ltb, length}
use Rattle.lent.specs.Bytes.{byte_at, number_at, window, part_of}
use Rattle.lent.specs.Scan.{gather, places}
use Rattle.limits.specs.Limits.{max_bytes, max_struct_fields}
use Rattle.field.specs.declared.FieldDef.{FieldDef}
use Rattle.field.specs.declared.Holder.{Holder}
use Rattle.field.specs.declared.Holder.TheVariants.{Record, Struct}

-- a name: a byte that says how long it is, and its bytes
abbrev pub name_at : List ℕ → ℕ → List ℕ
name_at l at = window l (at + 1) (byte_at l at)

-- the part of the block whose start and length stand at a place, four bytes each; nothing where it does not lie inside
abbrev pub start_at : List ℕ → ℕ → ℕ
start_at l at = number_at l at 4

abbrev pub length_at : List ℕ → ℕ → ℕ
length_at l at = number_at l (at + 4) 4

abbrev pub part_at : List ℕ → ℕ → List ℕ
part_at l at = part_of l (start_at l at) (length_at l at)

pub record RecordLayout : Type 0 where
  pub rtype : ℕ
  pub schema : ℕ
  pub base : ℕ
  pub hash : ℕ
  pub name : List ℕ
  pub table : List ℕ
  pub names : List (List ℕ)

-- the record whose head begins at h
unfoldable pub record_at : List ℕ → ℕ → RecordLayout
record_at l h =
    record {
      rtype = number_at l h 2;
      schema = number_at l (h + 2) 2;
      base = number_at l (h + 4) 4;
      hash = number_at l (h + 8) 8;
      name = name_at l (h + 32);
      table = part_at l (h + 16);
      names = gather (name_at l) 33 (start_at l (h + 24)) (length_at l (h + 24) / 33);
    }

pub record StructLayout : Type 0 where
  pub size : ℕ
  pub name : List ℕ
  pub table : List ℕ

-- the struct whose head begins at h
unfoldable pub struct_at : List ℕ → ℕ → StructLayout
struct_at l h = record { size = number_at l h 4; name = name_at l (h + 12); table = part_at l (h + 4) }

-- ---- the heads: how large one is, where the first stands, and how many the block says that it has

abbrev pub head_size : Holder → ℕ
head_size Record = 72
head_size Struct = 48

abbrev pub count_of : Holder → List ℕ → ℕ
count_of Record l = number_at l 0 2
count_of Struct l = number_at l 2 2

-- where the head of record k stands, if there are so many
abbrev pub record_head : ℕ → ℕ
record_head k = 8 + 72 * k

abbrev pub heads_from : Holder → List ℕ → ℕ
heads_from Record l = 8
heads_from Struct l = record_head (count_of Record l)

abbrev pub heads : Holder → List ℕ → List ℕ
heads holder l = places (head_size holder) (heads_from holder l) (count_of holder l)

-- record k
abbrev pub record_of : List ℕ → ℕ → RecordLayout
record_of l k = record_at l (record_head k)

abbrev pub records : List ℕ → List RecordLayout
records l = map (record_at l) (heads Record l)

abbrev pub structs : List ℕ → List StructLayout
structs l = map (struct_at l) (heads Struct l)

-- the table whose head begins at h, and the end that no field of it may pass
abbrev pub table_at : Holder → List ℕ → ℕ → List ℕ
table_at Record l h = (record_at l h).table
table_at Struct l h = (struct_at l h).table

abbrev pub limit_at : Holder → List ℕ → ℕ → ℕ
limit_at Record l h = max_bytes
limit_at Struct l h = (struct_at l h).size

-- ---- the struct that a field names: where its head stands, the struct, and whether the table has one

abbrev pub head_of : List ℕ → FieldDef → ℕ
head_of l f = heads_from Struct l + 48 * f.def_index

abbrev pub struct_of : List ℕ → FieldDef → StructLayout
struct_of l f = struct_at l (head_of l f)

abbrev pub has_struct : List ℕ → FieldDef → Bool
has_struct l f = ltb f.def_index (count_of Struct l)

-- no struct has more fields than its limit
pub record FewFields (l : List ℕ) : Type 0 where
  pub few : (k : ℕ) → k < count_of Struct l → length (struct_at l (heads_from Struct l + 48 * k)).table ≤ 16 * max_struct_fields
