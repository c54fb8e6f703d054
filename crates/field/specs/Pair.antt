-- Two fields of one id, one of each table: how far they are alike.
use Rattle.std.specs.Prelude.{ℕ, Bool, cond, not, ◌&&◌, ◌||◌, List, eqb}
use Rattle.catalogue.specs.Catalogue.{class_of}
use Rattle.field.specs.Field.{byte_of, is_array, is_integer}
use Rattle.field.specs.declared.FieldDef.{FieldDef}

abbrev pub same_scale : FieldDef → FieldDef → Bool
same_scale have want = eqb (byte_of have.scale) (byte_of want.scale)

-- both arrays or neither
abbrev pub same_arrayness : List ℕ → FieldDef → FieldDef → Bool
same_arrayness cat have want = cond (is_array cat have) (is_array cat want) (not (is_array cat want))

-- the same size, type, scale and arrayness
abbrev pub same_kind : List ℕ → FieldDef → FieldDef → Bool
same_kind cat have want =
    eqb have.size want.size
    && (eqb have.type_id want.type_id && (same_scale have want && same_arrayness cat have want))

-- nothing else is carried between these
abbrev pub apart : List ℕ → FieldDef → FieldDef → Bool
apart cat have want = not (same_scale have want) || (is_array cat have || is_array cat want)

-- both integers of the same sign
abbrev pub same_sign : List ℕ → FieldDef → FieldDef → Bool
same_sign cat have want = is_integer cat have && eqb (class_of cat have.type_id) (class_of cat want.type_id)
