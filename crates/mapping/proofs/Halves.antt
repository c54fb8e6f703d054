-- Half of what n bytes hold, as the shift makes it. Assumes nothing.
use mathlib.Core.Path.{◌≡◌, ◌∙◌}
use Prim.Native.Nat.{ℕ, ◌-◌, ◌*◌, ◌%◌, ◌^◌, ◌≤◌}
use native.Mathlib.Nat.{one-mul}
use native.Mathlib.Omega.{arith}
use lib.Pow.{pow_pos, pow_mono, shl_exact}
use lib.Dec.{lit<}
use Rattle.mapping.specs.Mapping.{half}

pub shifted : (n : ℕ) → n ≤ 8 → 1 ≤ n → (1 * 2 ^ (8 * n - 1)) % 2 ^ 64 ≡ half n
unfolding half
shifted n h l = shl_exact {a = 1} 1 (8 * n - 1) 64 (lit< tt) (omega arith) ∙ one-mul (2 ^ (8 * n - 1))

pub half_pos : (n : ℕ) → 1 ≤ half n
unfolding half
half_pos n = pow_pos (8 * n - 1)

pub half_le : (n : ℕ) → n ≤ 8 → half n ≤ 2 ^ 63
unfolding half
half_le n h = pow_mono {i = 8 * n - 1} {j = 63} (omega arith)
