-- What a part of the code may pass over.
use Rattle.std.specs.Prelude.{ℕ, ◌-◌, ◌*◌, ◌/◌, ◌≤◌, ◌≡◌, Bool, false, List, length}
use Rattle.lent.specs.Scan.{gather, some}
use Rattle.field.specs.Field.{field_at, fields_of}
use Rattle.field.specs.declared.FieldDef.{FieldDef}

-- whatever only fields of that id pass, the fields from place k on decide
pub record Skips (t : List ℕ) (id k : ℕ) : Type 0 where
  pub within : k ≤ length t / 16
  pub rest : (test : FieldDef → Bool) → ((f : FieldDef) → (f.field_id ≡ id → ⊥) → test f ≡ false)
      → some test (gather (field_at t) 16 (16 * k) (length t / 16 - k)) ≡ some test (fields_of t)
