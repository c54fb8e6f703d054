-- A row has 16 bytes, and a slot 33. Assumes nothing.
use mathlib.Core.Path.{◌≡◌, refl}
use mathlib.Core.List.{List, ◌∷◌}
use Prim.Native.Nat.{ℕ, ◌≤◌}
use native.Mathlib.Omega.{arith}
use lib.ListN.{length, replicate}
use lib.Seq.{length-sets}
use Rattle.field.specs.declared.FieldDef.{FieldDef}
use Rattle.cursor_rules.specs.Cursor.{row_of, slot_of}

pub row-length : (f : FieldDef) → length (row_of f) ≡ 16
unfolding row_of
row-length f = refl

pub row_fits : (f : FieldDef) → length (row_of f) ≤ 16
row_fits f = omega (arith, row-length f)

pub slot-length : (name : List ℕ) → length (slot_of name) ≡ 33
unfolding slot_of
slot-length name = length-sets (replicate 33 0) 0 (length name ∷ name)

pub slot-fits : (name : List ℕ) → length (slot_of name) ≤ 33
slot-fits name = omega (arith, slot-length name)
