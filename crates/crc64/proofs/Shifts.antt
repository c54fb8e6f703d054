-- Shifts are linear: what stands above the digits shifted out only comes down. This is what makes a table of bytes do.
-- Assumes nothing.
use Rattle.std.proofs.Common.{◌≡◌, ℕ, zero, suc, ◌+◌, ◌-◌, ◌*◌, ◌/◌, ◌%◌, ◌^◌, ◌<◌, cond, eqb, sym, refl, ap, ◌∙◌, ap₂, le_of_suc-le-suc, not-suc-le-zero, mod-lt, mul-one, arith, pow_pos}
use native.Mathlib.Nat.{div-eq_of_lt}
use lib.Bits.{bit_and, bit_xor, differ, xor_shr, xor_zero_r, xor_shifted, shifted_half, shifted_even}
use lib.Pow.{split}
use Rattle.crc64.specs.Sum.{empty, shift, shifts, byte_step}
use Rattle.crc64.proofs.Xor.{xor_assoc, xor-half, xor_low}

-- a choice by a digit, as a product with it
pub picked : (h d : ℕ) → d < 2 → cond (eqb d 1) (bit_xor h empty) h ≡ bit_xor h (d * empty)
picked h zero small = sym (xor_zero_r h)
picked h (suc zero) small = refl
picked h (suc (suc d)) small = omega arith

-- a mask that is zero less the digit, wrapped, is all ones or none
pub masked : (d m : ℕ) → d < 2 → m < 2 ^ 64 → (m + d) % 2 ^ 64 ≡ 0 → bit_and m empty ≡ d * empty
masked zero m small fits wraps = ap (λ (x : ℕ). bit_and x empty) (let e : m ≡ 0 = omega arith in e)
masked (suc zero) m small fits wraps = ap (λ (x : ℕ). bit_and x empty) (let e : m ≡ 2 ^ 64 - 1 = omega arith in e)
masked (suc (suc d)) m small fits wraps = absurd (not-suc-le-zero (le_of_suc-le-suc (le_of_suc-le-suc small)))

pub shift-product : (fp : ℕ) → shift fp ≡ bit_xor (fp / 2) (fp % 2 * empty)
unfolding shift
shift-product fp = picked (fp / 2) (fp % 2) (omega arith)

shift-above : (h n low : ℕ) → shift (bit_xor (h * 2 ^ suc n) low) ≡ bit_xor (h * 2 ^ n) (shift low)
shift-above h n low =
    shift-product (bit_xor (h * 2 ^ suc n) low)
    ∙ ap₂ (λ (x d : ℕ). bit_xor x (d * empty))
    (xor-half (h * 2 ^ suc n) low ∙ ap (λ (x : ℕ). bit_xor x (low / 2)) (shifted_half h n))
    (xor_low (h * 2 ^ suc n) low ∙ ap (λ (x : ℕ). differ x (low % 2)) (shifted_even h n))
    ∙ xor_assoc (h * 2 ^ n) (low / 2) (low % 2 * empty)
    ∙ ap (bit_xor (h * 2 ^ n)) (sym (shift-product low))

pub shifts-above : (n h low : ℕ) → shifts n (bit_xor (h * 2 ^ n) low) ≡ bit_xor h (shifts n low)
unfolding shifts
shifts-above zero h low = ap (λ (x : ℕ). bit_xor x low) (mul-one h)
shifts-above (suc n) h low = ap (shifts n) (shift-above h n low) ∙ shifts-above n h (shift low)

-- n shifts of a number are those of its low n digits, with the others xored in
pub shifts-split : (n fp : ℕ) → shifts n fp ≡ bit_xor (fp / 2 ^ n) (shifts n (fp % 2 ^ n))
shifts-split n fp =
    ap (shifts n) (sym (split fp n) ∙ sym (xor_shifted (fp / 2 ^ n) n (fp % 2 ^ n) (mod-lt fp (pow_pos n))))
    ∙ shifts-above n (fp / 2 ^ n) (fp % 2 ^ n)

-- a byte goes in by eight shifts of the low byte alone
pub byte_split : (fp b : ℕ) → b < 256 → bit_xor (fp / 256) (shifts 8 (bit_xor fp b % 256)) ≡ byte_step fp b
unfolding byte_step
byte_split fp b small =
    ap (λ (x : ℕ). bit_xor x (shifts 8 (bit_xor fp b % 2 ^ 8)))
    (sym (xor_shr fp b 8 ∙ ap (bit_xor (fp / 2 ^ 8)) (div-eq_of_lt small) ∙ xor_zero_r (fp / 2 ^ 8)))
    ∙ sym (shifts-split 8 (bit_xor fp b))
