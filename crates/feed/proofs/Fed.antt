-- A field's bytes go into a sum. Assumes nothing.
use mathlib.Core.Path.{◌≡◌, ◌∙◌}
use mathlib.Core.List.{append_assoc}
use Prim.Native.Nat.{ℕ, ◌+◌, ◌*◌, ◌<◌}
use Rattle.crc64.specs.Sum.{bytes_step}
use Rattle.crc64.proofs.Runs.{joined}
use Rattle.lent.specs.Bytes.{bytes_of}
use Rattle.lent.proofs.Bytes.{bytes-add}
use Rattle.field.specs.Field.{byte_of}
use Rattle.field.specs.declared.FieldDef.{FieldDef}
use Rattle.feed.specs.Feed.{field_bytes}

-- the numbers that others stand above have the sizes of their types
pub record Ranges (f : FieldDef) : Type 0 where
  pub id : f.field_id < 65536
  pub size : f.size < 65536
  pub type : f.type_id < 256
  pub flags : f.flags < 256

-- its first two numbers, joined, and its last four
pub fed-field : (f : FieldDef) → Ranges f → (fp sum r : ℕ)
    → sum ≡ bytes_step fp (bytes_of 4 (f.field_id + 65536 * f.offset))
    → r ≡ bytes_step sum (bytes_of 5 (f.size + 65536 * (f.type_id + 256 * (f.flags + 256 * byte_of f.scale))))
    → r ≡ bytes_step fp (field_bytes f)
unfolding field_bytes
fed-field f g fp sum r es er =
    er
    ∙ rw (
      es,
      bytes-add 2 2 f.field_id f.offset g.id,
      bytes-add 2 3 f.size (f.type_id + 256 * (f.flags + 256 * byte_of f.scale)) g.size,
      bytes-add 1 2 f.type_id (f.flags + 256 * byte_of f.scale) g.type,
      bytes-add 1 1 f.flags (byte_of f.scale) g.flags,
      ← joined,
    )
    (simp append_assoc)
