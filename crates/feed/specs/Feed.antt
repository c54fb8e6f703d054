-- What a field feeds a sum.
use Rattle.std.specs.Prelude.{ℕ, List, ◌++◌}
use Rattle.lent.specs.Bytes.{bytes_of}
use Rattle.crc64.specs.Sum.{bytes_step}
use Rattle.field.specs.Field.{field_at, byte_of}
use Rattle.field.specs.declared.FieldDef.{FieldDef}

-- a field's own bytes; def_index is none of them
unfoldable pub field_bytes : FieldDef → List ℕ
field_bytes f =
    bytes_of 2 f.field_id
    ++ (bytes_of 2 f.offset ++ (bytes_of 2 f.size ++ (bytes_of 1 f.type_id ++ (bytes_of 1 f.flags ++ bytes_of 1 (byte_of f.scale)))))

-- the bytes of the field in a row of 16 go into a sum
abbrev pub row_step : ℕ → List ℕ → ℕ
row_step fp row = bytes_step fp (field_bytes (field_at row 0))
