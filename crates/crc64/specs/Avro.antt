-- The 64-bit fingerprint of the Apache Avro specification, as its text computes it, on natural numbers below 2 ^ 64.
use Rattle.std.specs.Prelude.{ℕ, zero, suc, ◌-◌, ◌/◌, ◌%◌, ◌^◌, List, [], ◌∷◌, bit_and, bit_xor, slice_index}
use Rattle.lent.specs.Scan.{gather}

abbrev pub EMPTY : ℕ
EMPTY = 0xc15d213aa4d7a795

-- -x on 64 bits
unfoldable pub negated : ℕ → ℕ
negated x = (2 ^ 64 - x) % 2 ^ 64

-- (fp >>> 1) ^ (EMPTY & -(fp & 1))
unfoldable pub turn : ℕ → ℕ
turn fp = bit_xor (fp / 2) (bit_and EMPTY (negated (bit_and fp 1)))

unfoldable pub turns : ℕ → ℕ → ℕ
turns zero fp = fp
turns (suc n) fp = turns n (turn fp)

-- FP_TABLE: entry i is i after eight turns
unfoldable pub fp_table : List ℕ
fp_table = gather (turns 8) 1 0 256

-- (fp >>> 8) ^ FP_TABLE[(fp ^ b) & 0xff]
unfoldable pub print_byte : ℕ → ℕ → ℕ
print_byte fp b = bit_xor (fp / 256) (slice_index fp_table (bit_and (bit_xor fp b) 0xff))

unfoldable pub print_from : ℕ → List ℕ → ℕ
print_from fp [] = fp
print_from fp (b ∷ bs) = print_from (print_byte fp b) bs

unfoldable pub fingerprint : List ℕ → ℕ
fingerprint bs = print_from EMPTY bs
