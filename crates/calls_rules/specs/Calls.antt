-- The calls of the field cursor: which kinds each takes, how it aligns, and the field that it places.
use Rattle.std.specs.Prelude.{Result, Ok, Err, ℕ, ◌+◌, ◌*◌, min, Bool, true, cond, not, ◌&&◌, List, leb, ltb, eqb, ℤ, pos, negsuc}
use Rattle.limits.specs.Limits.{max_bytes}
use Rattle.lent.specs.Scan.{highest}
use Rattle.catalogue.specs.Catalogue.{class_of, width_of, array_flag, id_of, decimal, string, struct}
use Rattle.field.specs.Field.{fields_of}
use Rattle.field.specs.declared.FieldDef.{FieldDef}
use Rattle.layout.specs.Layout.{count_of, heads_from, struct_at}
use Rattle.field.specs.declared.Holder.TheVariants.{Struct}
use Rattle.cursor_rules.specs.Cursor.{Building, Outcome, align_up, place, move_to, outcome}
use Rattle.cursor_rules.specs.declared.FieldCursor.{FieldCursor}
use Rattle.cursor_rules.specs.declared.Times.{Times}
use Rattle.cursor_rules.specs.declared.Times.TheVariants.{One, Array}
use Rattle.limits.specs.declared.refusal.Refusal.{Refusal}

-- ---- scalar: other, unsigned, signed and decimal ids that have a width

abbrev pub takes_scalar : List ℕ → ℕ → Bool
takes_scalar cat id = leb (class_of cat id) decimal && not (eqb (width_of cat id) 0)

abbrev pub scale_of : List ℕ → ℕ → ℤ
scale_of cat id = cond (eqb (class_of cat id) decimal) (negsuc 8) (pos 0)

-- a field that has no place yet
abbrev pub sketch : ℕ → ℕ → ℕ → ℕ → ℕ → ℤ → FieldDef
sketch field_id type_id size flags def_index scale =
    record {
      field_id = field_id;
      offset = 0;
      size = size;
      type_id = type_id;
      flags = flags;
      def_index = def_index;
      scale = scale;
      reserved = 0;
    }

abbrev pub scalar_of : List ℕ → ℕ → ℕ → ℕ → ℕ → ℕ → List ℕ → Building → Outcome
scalar_of cat field_id type_id size flags def_index name =
    place cat (takes_scalar cat type_id) (width_of cat type_id) (sketch field_id type_id size flags def_index (scale_of cat type_id)) name

-- ---- string: aligned to nothing

abbrev pub takes_string : List ℕ → ℕ → Bool
takes_string cat id = eqb (class_of cat id) string

abbrev pub string_of : List ℕ → ℕ → ℕ → ℕ → ℕ → List ℕ → Building → Outcome
string_of cat field_id type_id size flags name =
    place cat (takes_string cat type_id) 1 (sketch field_id type_id size flags 0 (pos 0)) name

-- ---- like: the numbers of another field, all but its place and its def_index

abbrev pub takes_like : List ℕ → ℕ → Bool
takes_like cat id = not (eqb (class_of cat id) struct)

abbrev pub like_of : List ℕ → FieldDef → ℕ → List ℕ → Building → Outcome
like_of cat f def_index name =
    place cat (takes_like cat f.type_id) (width_of cat f.type_id)
    (sketch f.field_id f.type_id f.size f.flags def_index f.scale) name

-- ---- nested: struct k of a layout, once or as an array

-- the largest width of a table's fields
abbrev pub widest : List ℕ → List FieldDef → ℕ
widest cat fs = highest (λ f. width_of cat f.type_id) fs

abbrev pub struct_head : List ℕ → ℕ → ℕ
struct_head l k = heads_from Struct l + 48 * k

abbrev pub times_of : Times → ℕ
times_of One = 1
times_of (Array n) = n

abbrev pub times_flag : List ℕ → Times → ℕ
times_flag cat One = 0
times_flag cat (Array n) = array_flag cat

-- the size of all of them; what is too large is too large by one
abbrev pub nested_size : List ℕ → ℕ → Times → ℕ
nested_size l k times = min ((struct_at l (struct_head l k)).size * times_of times) (max_bytes + 1)

abbrev pub nested_of : List ℕ → List ℕ → ℕ → ℕ → Times → List ℕ → Building → Outcome
nested_of cat l field_id k times name =
    place cat (ltb k (count_of Struct l)) (widest cat (fields_of (struct_at l (struct_head l k)).table))
    (sketch field_id (id_of cat struct) (nested_size l k times) (times_flag cat times) k (pos 0)) name

-- ---- at, and the base

abbrev pub at_of : List ℕ → ℕ → Building → Outcome
at_of cat offset = move_to cat offset

-- the base is noted once
abbrev pub noted : FieldCursor → FieldCursor
noted c = record { most = c.most; count = c.count; cursor = c.cursor; base = cond c.based c.base c.cursor; based = true }

abbrev pub noted_in : Result FieldCursor Refusal → Result FieldCursor Refusal
noted_in (Ok c) = Ok (noted c)
noted_in (Err refusal) = Err refusal

abbrev pub noted_all : Outcome → Outcome
noted_all o = outcome (noted_in o.answer) o.table o.names

-- where the base ends: aligned to 8, unless it is noted already
abbrev pub base_end : FieldCursor → ℕ
base_end c = cond c.based c.cursor (align_up c.cursor 8)

abbrev pub finish_base_of : List ℕ → Building → Outcome
finish_base_of cat b = noted_all (move_to cat (base_end b.state) b)

-- the end of all: aligned to 8, the base noted if need be
abbrev pub ended_of : List ℕ → Building → Outcome
ended_of cat b = noted_all (move_to cat (align_up b.state.cursor 8) b)
