-- A number of n bytes goes in at once: what stands above the low byte only comes down. Assumes nothing.
use Rattle.std.proofs.Common.{◌≡◌, ℕ, zero, suc, ◌+◌, ◌*◌, ◌/◌, ◌%◌, ◌^◌, ◌<◌, sym, ap, ◌∙◌, arith}
use native.Mathlib.Nat.{pow-succ'}
use lib.Bits.{bit_xor, xor_zero_r, xor_comm, xor_shifted}
use Rattle.lent.specs.Bytes.{bytes_of}
use Rattle.crc64.specs.Sum.{shift, shifts, due, byte_step, bytes_step}
use Rattle.crc64.proofs.Shifts.{shifts-above}
use Rattle.crc64.proofs.Xor.{xor_assoc}

pub shifts-add : (n m x : ℕ) → shifts (n + m) x ≡ shifts m (shifts n x)
unfolding shifts
shifts-add zero m x = let e : 0 + m ≡ m = omega arith in rw e
shifts-add (suc n) m x = let e : suc n + m ≡ suc (n + m) = omega arith in rw e (shifts-add n m (shift x))

-- a byte's shifts bring the number above it down
brought : (fp b h : ℕ) → b < 256 → due (bit_xor fp (b + 256 * h)) ≡ bit_xor (byte_step fp b) h
unfolding byte_step
brought fp b h small =
    let e : b + 256 * h ≡ h * 2 ^ 8 + b = omega arith in
    ap (λ (v : ℕ). due (bit_xor fp v)) (e ∙ sym (xor_shifted h 8 b small) ∙ xor_comm (h * 2 ^ 8) b)
    ∙ ap due (sym (xor_assoc fp b (h * 2 ^ 8)) ∙ xor_comm (bit_xor fp b) (h * 2 ^ 8))
    ∙ shifts-above 8 h (bit_xor fp b)
    ∙ xor_comm h (due (bit_xor fp b))

pub number-goes : (n fp v : ℕ) → v < 256 ^ n → shifts (8 * n) (bit_xor fp v) ≡ bytes_step fp (bytes_of n v)
unfolding shifts bytes_step
number-goes zero fp v h =
    let e : v ≡ 0 = omega arith in
    ap (bit_xor fp) e ∙ xor_zero_r fp
number-goes (suc n) fp v h =
    let e : 8 * suc n ≡ 8 + 8 * n = omega arith in
    let f : v ≡ v % 256 + 256 * (v / 256) = omega arith in
    let g : v / 256 < 256 ^ n = let z : v < 256 * 256 ^ n = rw (pow-succ') at h in omega arith in
    ap (λ (k : ℕ). shifts k (bit_xor fp v)) e
    ∙ shifts-add 8 (8 * n) (bit_xor fp v)
    ∙ ap (shifts (8 * n)) (ap (λ (w : ℕ). due (bit_xor fp w)) f ∙ brought fp (v % 256) (v / 256) (omega arith))
    ∙ number-goes n (byte_step fp (v % 256)) (v / 256) g
