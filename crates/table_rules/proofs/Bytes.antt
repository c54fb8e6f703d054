-- `share_byte` says what its name says. Assumes nothing.
use mathlib.Core.Path.{◌≡◌}
use mathlib.Core.Bool.{true, false≢true}
use Prim.Native.Nat.{ℕ, ◌≤◌, ◌<◌, min, max}
use native.Mathlib.Omega.{arith}
use borrow.Author.Tests.{lt-ltb, ltb-true}
use Rattle.field.specs.Field.{end_of}
use Rattle.field.specs.declared.FieldDef.{FieldDef}
use Rattle.table_rules.specs.Table.{share_byte, clear_of}

-- byte i lies in the field
pub record Covers (f : FieldDef) (i : ℕ) : Type 0 where
  pub from : f.offset ≤ i
  pub to : i < end_of f

-- a byte of both makes the test true, and a test that is true gives one
pub shares : (f g : FieldDef) (i : ℕ) → Covers f i → Covers g i → share_byte f g ≡ true
shares f g i h k = lt-ltb (max f.offset g.offset) (min (end_of f) (end_of g)) (omega arith)

pub shared : (f g : FieldDef) → share_byte f g ≡ true → (i : ℕ) × Covers f i × Covers g i
shared f g e =
    let h : max f.offset g.offset < min (end_of f) (end_of g) = ltb-true _ _ e in
    (max f.offset g.offset, record { from = omega arith; to = omega arith }, record { from = omega arith; to = omega arith })

-- fields that are clear of each other have no byte in common
pub clear : (f g : FieldDef) (i : ℕ) → clear_of f g ≡ true → Covers f i → Covers g i → ⊥
clear f g i e h k = false≢true (rw (shares f g i h k) at e)
