-- The least multiple that is not below a number. Assumes nothing.
use mathlib.Core.Path.{◌≡◌}
use Prim.Native.Nat.{ℕ, ◌+◌, ◌-◌, ◌*◌, ◌%◌, ◌^◌, ◌≤◌, ◌<◌, max}
use native.Mathlib.Nat.{div-add-mod', mod-lt, mul-le-mul_left, le_of_lt}
use native.Mathlib.Omega.{arith}
use Rattle.cursor_rules.specs.Cursor.{align_up}

module _ (at align : ℕ) where
  whole : align_up at align + (at + (max 1 align - 1)) % max 1 align ≡ at + (max 1 align - 1)
  whole = div-add-mod' (at + (max 1 align - 1)) (max 1 align)

  rest : (at + (max 1 align - 1)) % max 1 align < max 1 align
  rest = mod-lt (at + (max 1 align - 1)) (omega arith)

  -- not below it
  pub up_from : at ≤ align_up at align
  up_from = omega (arith, whole, rest)

  -- and less than a step above it
  pub up_to : align_up at align < at + max 1 align
  up_to = omega (arith, whole, rest)

-- four bytes times two
pub below32 : {a b : ℕ} → a < 4294967296 → b < 65536 → a * b < 2 ^ 64
below32 {a} {b} ha hb =
    let k : a * b ≤ a * 65536 = mul-le-mul_left a (le_of_lt hb) in
    omega arith
