-- Two fields, each of its layout, that are the same but for where their structs stand. The layout of the one is called s, that of the other c.
use Rattle.std.specs.Prelude.{ℕ, ◌/◌, Bool, true, cond, ◌&&◌, List, eqb, length}
use Rattle.lent.specs.Scan.{alike}
use Rattle.field.specs.Field.{fields_of, byte_of, is_struct}
use Rattle.field.specs.declared.FieldDef.{FieldDef}
use Rattle.field.specs.Order.{by_offset}
use Rattle.layout.specs.Layout.{StructLayout, struct_of, has_struct}

-- the six numbers; def_index is none of them
unfoldable pub eq_except_def_index : FieldDef → FieldDef → Bool
eq_except_def_index a b =
    eqb a.field_id b.field_id
    && (eqb a.offset b.offset
    && (eqb a.size b.size
    && (eqb a.type_id b.type_id && (eqb a.flags b.flags && eqb (byte_of a.scale) (byte_of b.scale)))))

-- size, number of fields, and the fields in offset order; the structs that they name are not entered
unfoldable pub struct_eq : StructLayout → StructLayout → Bool
struct_eq a b =
    eqb a.size b.size
    && (eqb (length a.table / 16) (length b.table / 16)
    && alike eq_except_def_index (by_offset (fields_of a.table)) (by_offset (fields_of b.table)))

-- of two struct fields: both structs are there, and equal
abbrev pub named_eq : List ℕ → FieldDef → List ℕ → FieldDef → Bool
named_eq s f c g = has_struct s f && (has_struct c g && struct_eq (struct_of s f) (struct_of c g))

unfoldable pub field_eq : List ℕ → List ℕ → FieldDef → List ℕ → FieldDef → Bool
field_eq cat s f c g = eq_except_def_index f g && cond (is_struct cat f) (named_eq s f c g) true
