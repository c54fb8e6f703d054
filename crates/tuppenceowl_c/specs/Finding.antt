-- What hosts are told of a field: a status, and the field's 16 bytes as the cursor stores them.
use Rattle.std.specs.Prelude.{ℕ, List, Option, Some, None, Result, Ok, Err}
use Rattle.limits.specs.Refusal.{number_of}
use Rattle.limits.specs.declared.refusal.Refusal.{Refusal}
use Rattle.cursor_rules.specs.Cursor.{row_of}
use Rattle.field.specs.declared.FieldDef.{FieldDef}
use Rattle.tuppenceowl_c.specs.Status.{none}

abbrev pub found_status : Result (Option FieldDef) Refusal → ℕ
found_status (Ok (Some f)) = 0
found_status (Ok None) = none
found_status (Err refusal) = number_of refusal

abbrev pub field_or : Result (Option FieldDef) Refusal → List ℕ → List ℕ
field_or (Ok (Some f)) found = row_of f
field_or (Ok None) found = found
field_or (Err refusal) found = found
