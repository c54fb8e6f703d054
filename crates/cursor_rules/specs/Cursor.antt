-- The field cursor: its state, the table and the names that it fills, and what it is to push a field, to fill a gap and to place a field.
use Rattle.std.specs.Prelude.{Result, Ok, Err, ℕ, ◌+◌, ◌-◌, ◌*◌, ◌/◌, min, max, Bool, false, cond, not, ◌&&◌, ◌||◌, List, [], ◌∷◌, ◌++◌, leb, ltb, eqb, pos, length, replicate}
use Rattle.std.specs.Int.Bits.{bit_or}
use Rattle.std.proofs.lemmas.List.Edits.{sets}
use Rattle.limits.specs.Limits.{max_bytes, max_fields, max_struct_fields, max_name}
use Rattle.limits.specs.declared.refusal.Refusal.{Refusal}
use Rattle.limits.specs.declared.refusal.Refusal.TheVariants.{BadShape, CursorFull, BadCall}
use Rattle.lent.specs.Bytes.{bytes_of}
use Rattle.catalogue.specs.Catalogue.{class_of, width_of, extension_flag, padding_id, id_of, padding}
use Rattle.field.specs.Field.{byte_of, end_of, is_array}
use Rattle.field.specs.declared.FieldDef.{FieldDef}
use Rattle.field.specs.declared.Holder.{Holder}
use Rattle.field.specs.declared.Holder.TheVariants.{Record, Struct}
use Rattle.cursor_rules.specs.declared.FieldCursor.{FieldCursor}

-- ---- a field and a name as bytes

-- the 16 bytes of a field, the last five of them zero
unfoldable pub row_of : FieldDef → List ℕ
row_of f =
    bytes_of 2 f.field_id ++ (bytes_of 2 f.offset ++ (bytes_of 2 f.size ++ (f.type_id ∷ f.flags ∷
    (bytes_of 2 f.def_index ++ (byte_of f.scale ∷ 0 ∷ 0 ∷ 0 ∷ 0 ∷ 0 ∷ [])))))

-- the 33 bytes of a name: its length, its bytes, and zeros
unfoldable pub slot_of : List ℕ → List ℕ
slot_of name = sets (replicate 33 0) 0 (length name ∷ name)

-- ---- the state, with the table and the names

abbrev pub field_limit : Holder → ℕ
field_limit Record = max_fields
field_limit Struct = max_struct_fields

abbrev pub fresh : Holder → FieldCursor
fresh holder = record { most = field_limit holder; count = 0; cursor = 0; base = 0; based = false }

pub record Building : Type 0 where
  pub state : FieldCursor
  pub table : List ℕ
  pub names : List ℕ

abbrev pub building : FieldCursor → List ℕ → List ℕ → Building
building c t ns = record { state = c; table = t; names = ns }

-- how many fields there may be: no more than the holder's limit, and than table and names of these lengths have room for
abbrev pub room_in : ℕ → ℕ → ℕ → ℕ
room_in most table names = min (min most max_fields) (min (table / 16) (names / 33))

abbrev pub room : Building → ℕ
room b = room_in b.state.most (length b.table) (length b.names)

-- one more field, with its name: the cursor stands where it ends
abbrev pub pushed : FieldCursor → FieldDef → FieldCursor
pushed c f = record { most = c.most; count = c.count + 1; cursor = end_of f; base = c.base; based = c.based }

unfoldable pub push : FieldDef → List ℕ → Building → Building
push f name b =
    record {
      state = pushed b.state f;
      table = sets b.table (16 * b.state.count) (row_of f);
      names = sets b.names (33 * b.state.count) (slot_of name);
    }

-- ---- padding

abbrev pub padding_field : List ℕ → ℕ → ℕ → FieldDef
padding_field cat from size =
    record {
      field_id = padding_id cat;
      offset = from;
      size = size;
      type_id = id_of cat padding;
      flags = 0;
      def_index = 0;
      scale = pos 0;
      reserved = 0;
    }

-- the least multiple of `align` that is not below `at`; an align of 0 counts as 1
abbrev pub align_up : ℕ → ℕ → ℕ
align_up at align = (at + (max 1 align - 1)) / max 1 align * max 1 align

-- how many padding fields a gap up to `to` takes
abbrev pub gaps : FieldCursor → ℕ → ℕ
gaps c to = cond (ltb c.cursor to) 1 0

-- a gap up to `to` becomes one padding field, without a name

unfoldable pub pad_to : List ℕ → ℕ → Building → Building
pad_to cat to b = cond (ltb b.state.cursor to) (push (padding_field cat b.state.cursor (to - b.state.cursor)) [] b) b

-- ---- what a call answers, and what it leaves

pub record Outcome : Type 0 where
  pub answer : Result FieldCursor Refusal
  pub table : List ℕ
  pub names : List ℕ

abbrev pub outcome : Result FieldCursor Refusal → List ℕ → List ℕ → Outcome
outcome answer t ns = record { answer = answer; table = t; names = ns }

abbrev pub done : Building → Outcome
done b = outcome (Ok b.state) b.table b.names

-- a refusal leaves all as it was
abbrev pub refuse : Refusal → Building → Outcome
refuse refusal b = outcome (Err refusal) b.table b.names

-- 14: so many fields more, up to `end`
abbrev pub fits : ℕ → ℕ → Building → Bool
fits n end b = leb (n + b.state.count) (room b) && leb end max_bytes

-- the cursor goes to `to`, which is not behind it
unfoldable pub move_to : List ℕ → ℕ → Building → Outcome
move_to cat to b =
    cond (leb b.state.cursor to && fits (gaps b.state to) to b) (done (pad_to cat to b)) (refuse CursorFull b)

-- ---- a field is placed

-- 15: a size, and that of its type's width unless there is none or it is an array
abbrev pub size_ok : List ℕ → FieldDef → Bool
size_ok cat f =
    not (eqb f.size 0)
    && (is_array cat f || (eqb (width_of cat f.type_id) 0 || eqb f.size (width_of cat f.type_id)))

-- a field that comes after the base has the extension flag, padding never gets it
abbrev pub flags_after : List ℕ → FieldCursor → FieldDef → ℕ
flags_after cat c f =
    cond (c.based && not (eqb (class_of cat f.type_id) padding)) (bit_or f.flags (extension_flag cat)) f.flags

-- the field where it comes to lie
unfoldable pub laid : List ℕ → FieldCursor → ℕ → FieldDef → FieldDef
laid cat c align f =
    record {
      field_id = f.field_id;
      offset = align_up c.cursor align;
      size = f.size;
      type_id = f.type_id;
      flags = flags_after cat c f;
      def_index = f.def_index;
      scale = f.scale;
      reserved = 0;
    }

-- padding up to where it lies, and the field
unfoldable pub lay : List ℕ → FieldDef → List ℕ → Building → Outcome
lay cat f name b =
    cond (fits (gaps b.state f.offset + 1) (end_of f) b) (done (push f name (pad_to cat f.offset b))) (refuse CursorFull b)

-- 2, then 15, then 14
unfoldable pub place : List ℕ → Bool → ℕ → FieldDef → List ℕ → Building → Outcome
place cat takes align f name b =
    cond (leb (length name) max_name)
    (cond (takes && size_ok cat f) (lay cat (laid cat b.state align f) name b) (refuse BadCall b))
    (refuse BadShape b)
