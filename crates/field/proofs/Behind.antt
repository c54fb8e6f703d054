-- The fields of a table: the first, and those of what stands behind it. Assumes nothing.
use mathlib.Core.Path.{◌≡◌, refl, sym, ap, ◌∙◌}
use mathlib.Core.List.{List, [], ◌∷◌}
use Prim.Native.Nat.{ℕ, zero, suc, ◌+◌, ◌-◌, ◌*◌, ◌/◌, ◌≤◌, ◌<◌}
use native.Mathlib.Omega.{arith}
use lib.ListN.{length, drop, length-drop, get_or}
use Rattle.std.proofs.lemmas.List.{get_or-drop}
use Rattle.std.proofs.Math.Nat.{div-eq-sub-div}
use Rattle.lent.specs.Bytes.{byte_at, number_at}
use Rattle.lent.specs.Scan.{gather}
use Rattle.lent.proofs.Scan.{turn, none}
use Rattle.field.specs.Field.{signed_byte, field_at, fields_of}
use Rattle.field.specs.declared.FieldDef.{FieldDef}
use Rattle.field.specs.declared.rows.Rows.{Rows}
use Rattle.std.specs.Iterator.{YieldsFirst}
use Rattle.std.proofs.lemmas.Iterator.{YieldsList}
use Rattle.std.proofs.lemmas.Iterator.Consumers.{YieldsList-from_first}

byte-behind : (s : List ℕ) (n at : ℕ) → byte_at (drop n s) at ≡ byte_at s (n + at)
byte-behind s n at = get_or-drop n s at 0

number-behind : (s : List ℕ) (n at m : ℕ) → number_at (drop n s) at m ≡ number_at s (n + at) m
number-behind s n at zero = refl
number-behind s n at (suc m) =
    let e : n + (at + 1) ≡ (n + at) + 1 = omega arith in
    rw (byte-behind s n at, number-behind s n (at + 1) m, e)

field-behind : (s : List ℕ) (n at : ℕ) → field_at (drop n s) at ≡ field_at s (n + at)
unfolding field_at
field-behind s n at =
    let a : n + (at + 2) ≡ (n + at) + 2 = omega arith in
    let b : n + (at + 4) ≡ (n + at) + 4 = omega arith in
    let c : n + (at + 6) ≡ (n + at) + 6 = omega arith in
    let d : n + (at + 7) ≡ (n + at) + 7 = omega arith in
    let e : n + (at + 8) ≡ (n + at) + 8 = omega arith in
    let f : n + (at + 10) ≡ (n + at) + 10 = omega arith in
    let g : n + (at + 11) ≡ (n + at) + 11 = omega arith in
    rw (number-behind s n at 2, number-behind s n (at + 2) 2, number-behind s n (at + 4) 2, byte-behind s n (at + 6), byte-behind s n (at + 7), number-behind s n (at + 8) 2, byte-behind s n (at + 10), number-behind s n (at + 11) 5, a, b, c, d, e, f, g)

gathered-behind : (s : List ℕ) (n at m : ℕ) → gather (field_at (drop n s)) 16 at m ≡ gather (field_at s) 16 (n + at) m
unfolding gather
gathered-behind s n at zero = refl
gathered-behind s n at (suc m) =
    let e : n + (at + 16) ≡ (n + at) + 16 = omega arith in
    rw (field-behind s n at, gathered-behind s n (at + 16) m, e)

-- what is too short for a field has none
pub no-field : (s : List ℕ) → length s < 16 → fields_of s ≡ []
no-field s h = none (field_at s) 16 0 (length s / 16) (omega arith)

-- the first field, and the others
pub first-field : (s : List ℕ) → 16 ≤ length s → fields_of s ≡ field_at s 0 ∷ fields_of (drop 16 s)
first-field s h =
    let n : length (drop 16 s) / 16 ≡ length s / 16 - 1 = rw (length-drop 16 s) (omega arith) in
    turn (field_at s) 16 0 (length s / 16) (omega arith)
    ∙ ap (λ (fs : List FieldDef). field_at s 0 ∷ fs) (sym (rw n (gathered-behind s 16 0 (length s / 16 - 1))))

-- the rows of a table yield its fields
pub YieldsList-from_rows : (s : Rows) {fs : List FieldDef} → fields_of s.rest.now ≡ fs → YieldsList (YieldsFirst (λ (rows : Rows). fields_of rows.rest.now)) (λ (f : FieldDef). f) s fs
YieldsList-from_rows s {fs = fs} e = YieldsList-from_first (λ (f : FieldDef). f) (λ (rows : Rows). fields_of rows.rest.now) fs e
