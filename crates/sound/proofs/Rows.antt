-- Fields of a table, when bytes are stored elsewhere and when one is stored. Assumes nothing.
use mathlib.Core.Path.{◌≡◌, refl}
use mathlib.Core.List.{List, [], ◌∷◌, ◌++◌}
use Prim.Native.Nat.{ℕ, zero, suc, ◌+◌, ◌*◌, ◌/◌, ◌%◌, ◌≤◌, ◌<◌}
use native.Mathlib.Nat.{mul-suc, mul-zero}
use native.Mathlib.Omega.{arith}
use lib.ListN.{length, take}
use lib.Seq.{sets, get_or-take, length-take-le}
use Rattle.lent.specs.Bytes.{byte_at, number_at}
use Rattle.lent.specs.Scan.{gather}
use Rattle.lent.proofs.Stored.{get_in}
use Rattle.field.specs.Field.{field_at, fields_of}
use Rattle.field.specs.declared.FieldDef.{FieldDef}
use Rattle.cursor_rules.specs.Cursor.{row_of}

-- ---- the same bytes are the same field

module _ (s t : List ℕ) where
  same_number : (a b n : ℕ) → ((j : ℕ) → j < n → byte_at s (a + j) ≡ byte_at t (b + j)) → number_at s a n ≡ number_at t b n
  same_number a b zero h = refl
  same_number a b (suc n) h =
      let ea : a + 0 ≡ a = omega arith in
      let eb : b + 0 ≡ b = omega arith in
      let first : byte_at s a ≡ byte_at t b = rw (ea, eb) at (h 0 (omega arith)) in
      let rest : number_at s (a + 1) n ≡ number_at t (b + 1) n = same_number (a + 1) (b + 1) n (λ j k. later j k) in
      rw (first, rest) where
        later : (j : ℕ) → j < n → byte_at s (a + 1 + j) ≡ byte_at t (b + 1 + j)
        later j k =
            let e : a + 1 + j ≡ a + suc j = omega arith in
            let d : b + 1 + j ≡ b + suc j = omega arith in
            rw (e, d) (h (suc j) (omega arith))

  module _ (a b : ℕ) (h : (j : ℕ) → j < 16 → byte_at s (a + j) ≡ byte_at t (b + j)) where
    part : (from n : ℕ) → from + n ≤ 16 → number_at s (a + from) n ≡ number_at t (b + from) n
    part from n l = same_number (a + from) (b + from) n (λ j k. there j k) where
      there : (j : ℕ) → j < n → byte_at s (a + from + j) ≡ byte_at t (b + from + j)
      there j k =
          let e : a + from + j ≡ a + (from + j) = omega arith in
          let d : b + from + j ≡ b + (from + j) = omega arith in
          rw (e, d) (h (from + j) (omega arith))

    pub same-field : field_at s a ≡ field_at t b
    unfolding field_at
    same-field =
        let ea : a + 0 ≡ a = omega arith in
        let eb : b + 0 ≡ b = omega arith in
        let id : number_at s a 2 ≡ number_at t b 2 = rw (ea, eb) at (part 0 2 (omega arith)) in
        rw (
          id,
          part 2 2 (omega arith),
          part 4 2 (omega arith),
          h 6 (omega arith),
          h 7 (omega arith),
          part 8 2 (omega arith),
          h 10 (omega arith),
          part 11 5 (omega arith),
        )

  -- fields at the same places
  pub same-fields : (from n : ℕ) → ((j : ℕ) → j < from + 16 * n → byte_at s j ≡ byte_at t j) → gather (field_at s) 16 from n ≡ gather (field_at t) 16 from n
  unfolding gather
  same-fields from zero h = refl
  same-fields from (suc n) h =
      let m = mul-suc 16 n in
      let here : field_at s from ≡ field_at t from = same-field from from (λ j k. h (from + j) (omega arith)) in
      let rest : gather (field_at s) 16 (from + 16) n ≡ gather (field_at t) 16 (from + 16) n = same-fields (from + 16) n (λ j k. h j (omega arith)) in
      rw (here, rest)

-- the fields of a table are those of its front
pub front-fields : (t : List ℕ) (n : ℕ) → 16 * n ≤ length t → fields_of (take (16 * n) t) ≡ gather (field_at t) 16 0 n
front-fields t n h =
    let l : length (take (16 * n) t) ≡ 16 * n = length-take-le (16 * n) t h in
    let e : 16 * n / 16 ≡ n = omega arith in
    rw (l, e) (same-fields (take (16 * n) t) t 0 n (λ j k. get_or-take (16 * n) t j 0 (omega arith)))

-- the bytes at the same places
pub same-heads : (s t : List ℕ) (from n : ℕ) → ((j : ℕ) → j < from + 33 * n → byte_at s j ≡ byte_at t j) → gather (byte_at s) 33 from n ≡ gather (byte_at t) 33 from n
unfolding gather
same-heads s t from zero h = refl
same-heads s t from (suc n) h = rw (h from (omega arith), same-heads s t (from + 33) n (λ j k. h j (omega arith)))

-- one more stands last
pub last_one : {A : Type 0} (F : ℕ → A) (step from n : ℕ) → gather F step from (n + 1) ≡ gather F step from n ++ F (from + step * n) ∷ []
unfolding gather
last_one F step from zero = let e : from + step * 0 ≡ from = simp mul-zero (omega arith) in rw e
last_one F step from (suc n) =
    let e : from + step * suc n ≡ from + step + step * n = omega (arith, mul-suc step n) in
    let d : suc n + 1 ≡ suc (n + 1) = omega arith in
    rw (e, d, ← last_one F step (from + step) n)

-- ---- a field that was stored

module _ (t : List ℕ) (at : ℕ) (f : FieldDef) (room : at + 16 ≤ length t) where
  byte : (j : ℕ) → j < 16 → byte_at (sets t at (row_of f)) (at + j) ≡ byte_at (row_of f) j
  unfolding row_of
  byte j h = get_in (row_of f) t at j (omega arith) (omega arith)

  -- two bytes of the row, as a number
  two : (j v : ℕ) → j + 1 < 16 → v < 65536 → byte_at (row_of f) j ≡ v % 256 → byte_at (row_of f) (j + 1) ≡ v / 256 % 256 → number_at (sets t at (row_of f)) (at + j) 2 ≡ v
  two j v k h low high =
      let e : at + j + 1 ≡ at + (j + 1) = omega arith in
      rw (e, byte j (omega arith), byte (j + 1) k, low, high) (omega arith)

  pub row-offset : f.offset < 65536 → (field_at (sets t at (row_of f)) at).offset ≡ f.offset
  unfolding field_at row_of
  row-offset h = two 2 f.offset (omega arith) h refl refl

  pub row-size : f.size < 65536 → (field_at (sets t at (row_of f)) at).size ≡ f.size
  unfolding field_at row_of
  row-size h = two 4 f.size (omega arith) h refl refl

  pub row_type : (field_at (sets t at (row_of f)) at).type_id ≡ f.type_id
  unfolding field_at row_of
  row_type = byte 6 (omega arith)

  pub row-flags : (field_at (sets t at (row_of f)) at).flags ≡ f.flags
  unfolding field_at row_of
  row-flags = byte 7 (omega arith)

  pub row-reserved : (field_at (sets t at (row_of f)) at).reserved ≡ 0
  unfolding field_at row_of
  row-reserved =
      let b1 : at + 11 + 1 ≡ at + 12 = omega arith in
      let b2 : at + 12 + 1 ≡ at + 13 = omega arith in
      let b3 : at + 13 + 1 ≡ at + 14 = omega arith in
      let b4 : at + 14 + 1 ≡ at + 15 = omega arith in
      rw (b1, b2, b3, b4, byte 11 (omega arith), byte 12 (omega arith), byte 13 (omega arith), byte 14 (omega arith), byte 15 (omega arith))
