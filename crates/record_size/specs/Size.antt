-- The size of a record: the greater of its base and the last end of a field, padding and header included.
use Rattle.std.specs.Prelude.{ℕ, max, List}
use Rattle.lent.specs.Scan.{highest}
use Rattle.field.specs.Field.{fields_of, end_of}
use Rattle.field.specs.declared.FieldDef.{FieldDef}
use Rattle.layout.specs.Layout.{RecordLayout}

abbrev pub last_end : List FieldDef → ℕ
last_end fs = highest end_of fs

abbrev pub record_size : RecordLayout → ℕ
record_size r = max r.base (last_end (fields_of r.table))
