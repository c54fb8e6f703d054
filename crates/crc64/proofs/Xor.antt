-- What the library's laws of xor lack: its lowest digit, and that it is associative. Assumes nothing.
use Rattle.std.proofs.Common.{◌≡◌, ℕ, zero, suc, ◌+◌, ◌*◌, ◌/◌, ◌%◌, ◌<◌, sym, refl, ◌∙◌, ap₂, arith}
use lib.Arith.{bin_ind}
use lib.Bits.{bit_xor, differ, xor_step, xor_shr}

pub xor-half : (a b : ℕ) → bit_xor a b / 2 ≡ bit_xor (a / 2) (b / 2)
xor-half a b = xor_shr a b 1

differ-digit : (x y : ℕ) → x < 2 → y < 2 → differ x y < 2
differ-digit zero y hx hy = hy
differ-digit (suc zero) zero hx hy = hx
differ-digit (suc zero) (suc zero) hx hy = omega arith
differ-digit (suc zero) (suc (suc y)) hx hy = omega arith
differ-digit (suc (suc x)) y hx hy = omega arith

pub xor_low : (a b : ℕ) → bit_xor a b % 2 ≡ differ (a % 2) (b % 2)
xor_low a b = simp (xor_step a b) (omega (arith, differ-digit (a % 2) (b % 2) (omega arith) (omega arith)))

differ-assoc : (x y z : ℕ) → x < 2 → y < 2 → z < 2 → differ (differ x y) z ≡ differ x (differ y z)
differ-assoc zero y z hx hy hz = refl
differ-assoc (suc zero) zero z hx hy hz = refl
differ-assoc (suc zero) (suc zero) zero hx hy hz = refl
differ-assoc (suc zero) (suc zero) (suc zero) hx hy hz = refl
differ-assoc (suc zero) (suc zero) (suc (suc z)) hx hy hz = omega arith
differ-assoc (suc zero) (suc (suc y)) z hx hy hz = omega arith
differ-assoc (suc (suc x)) y z hx hy hz = omega arith

pub xor_assoc : (a b c : ℕ) → bit_xor (bit_xor a b) c ≡ bit_xor a (bit_xor b c)
xor_assoc a =
    bin_ind (λ (n : ℕ). (b c : ℕ) → bit_xor (bit_xor n b) c ≡ bit_xor n (bit_xor b c)) (λ b c. refl)
    (λ n ih b c.
    xor_step (bit_xor n b) c
    ∙ ap₂ (λ (x y : ℕ). bit_xor x (c / 2) * 2 + differ y (c % 2)) (xor-half n b) (xor_low n b)
    ∙ ap₂ (λ (x y : ℕ). x * 2 + y) (ih (b / 2) (c / 2))
    (differ-assoc (n % 2) (b % 2) (c % 2) (omega arith) (omega arith) (omega arith))
    ∙ ap₂ (λ (x y : ℕ). bit_xor (n / 2) x * 2 + differ (n % 2) y) (sym (xor-half b c)) (sym (xor_low b c))
    ∙ sym (xor_step n (bit_xor b c)))
    a
