-- The sum's rule, bit by bit.
use Rattle.std.specs.Prelude.{ℕ, zero, suc, ◌+◌, ◌*◌, ◌/◌, ◌%◌, cond, List, [], ◌∷◌, ◌==◌, bit_xor}
use Rattle.lent.specs.Scan.{gather}

-- what a sum starts at, and what a shift may xor in
abbrev pub empty : ℕ
empty = 0xC15D_213A_A4D7_A795

-- right by one; where the bit shifted out was one, `empty` is xored in
unfoldable pub shift : ℕ → ℕ
shift fp = cond (fp % 2 == 1) (bit_xor (fp / 2) empty) (fp / 2)

unfoldable pub shifts : ℕ → ℕ → ℕ
shifts zero fp = fp
shifts (suc n) fp = shifts n (shift fp)

-- what a sum becomes that a byte was xored into
abbrev pub due : ℕ → ℕ
due x = shifts 8 x

-- a byte is xored into the low eight bits, and eight shifts follow
unfoldable pub byte_step : ℕ → ℕ → ℕ
byte_step fp b = shifts 8 (bit_xor fp b)

-- a number of two bytes, the low one first
unfoldable pub u16_step : ℕ → ℕ → ℕ
u16_step fp v = byte_step (byte_step fp (v % 256)) (v / 256)

unfoldable pub bytes_step : ℕ → List ℕ → ℕ
bytes_step fp [] = fp
bytes_step fp (b ∷ bs) = bytes_step (byte_step fp b) bs

-- what eight shifts give, for each byte
unfoldable pub byte_table : List ℕ
byte_table = gather (shifts 8) 1 0 256

-- what shifting a digit to base 16 out gives, with the k digits above it, for each digit and each k below ten
unfoldable pub digit_table : List ℕ
digit_table = gather (λ i. shifts (4 * (i / 16 + 1)) (i % 16)) 1 0 160
