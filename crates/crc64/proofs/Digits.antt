-- Shifts of a xor are the xor of the shifts, so that each digit to base 16 has its own. Assumes nothing.
use Rattle.std.proofs.Common.{◌≡◌, ℕ, zero, suc, ◌+◌, ◌-◌, ◌*◌, ◌/◌, ◌%◌, ◌^◌, ◌<◌, List, get_or, sym, refl, ap, ◌∙◌, ap₂, le_of_suc-le-suc, not-suc-le-zero, arith}
use lib.Bits.{bit_xor, differ, xor_comm, xor_zero_l, xor_zero_r, xor_shifted}
use Rattle.crc64.specs.Sum.{empty, shift, shifts, digit_table}
use Rattle.crc64.proofs.Xor.{xor_assoc, xor-half, xor_low}
use Rattle.crc64.proofs.Shifts.{shift-product, shifts-above}
use Rattle.crc64.proofs.Words.{shifts-add}
use Rattle.crc64.proofs.Entries.{entry}

crossed : (a b c d : ℕ) → bit_xor (bit_xor a b) (bit_xor c d) ≡ bit_xor (bit_xor a c) (bit_xor b d)
crossed a b c d =
    xor_assoc a b (bit_xor c d)
    ∙ ap (bit_xor a) (sym (xor_assoc b c d) ∙ ap (λ (x : ℕ). bit_xor x d) (xor_comm b c) ∙ xor_assoc c b d)
    ∙ sym (xor_assoc a c (bit_xor b d))

either : (p q : ℕ) → p < 2 → q < 2 → differ p q * empty ≡ bit_xor (p * empty) (q * empty)
either zero zero h i = refl
either zero (suc zero) h i = refl
either (suc zero) zero h i = refl
either (suc zero) (suc zero) h i = refl
either (suc (suc p)) q h i = absurd (not-suc-le-zero (le_of_suc-le-suc (le_of_suc-le-suc h)))
either zero (suc (suc q)) h i = absurd (not-suc-le-zero (le_of_suc-le-suc (le_of_suc-le-suc i)))
either (suc zero) (suc (suc q)) h i = absurd (not-suc-le-zero (le_of_suc-le-suc (le_of_suc-le-suc i)))

shift-xor : (a b : ℕ) → shift (bit_xor a b) ≡ bit_xor (shift a) (shift b)
shift-xor a b =
    shift-product (bit_xor a b)
    ∙ ap₂ (λ (x d : ℕ). bit_xor x (d * empty)) (xor-half a b) (xor_low a b)
    ∙ ap (bit_xor (bit_xor (a / 2) (b / 2))) (either (a % 2) (b % 2) (omega arith) (omega arith))
    ∙ crossed (a / 2) (b / 2) (a % 2 * empty) (b % 2 * empty)
    ∙ sym (ap₂ bit_xor (shift-product a) (shift-product b))

shifts-xor : (n a b : ℕ) → shifts n (bit_xor a b) ≡ bit_xor (shifts n a) (shifts n b)
unfolding shifts
shifts-xor zero a b = refl
shifts-xor (suc n) a b = ap (shifts n) (shift-xor a b) ∙ shifts-xor n (shift a) (shift b)

shifts-zero : (n : ℕ) → shifts n 0 ≡ 0
unfolding shifts shift
shifts-zero zero = refl
shifts-zero (suc n) = shifts-zero n

-- what stands above a digit comes down by its four shifts
come-down : (k h : ℕ) → shifts (4 * (k + 1)) (h * 2 ^ 4) ≡ shifts (4 * k) h
come-down k h =
    let f : 4 * (k + 1) ≡ 4 + 4 * k = omega arith in
    ap (λ (n : ℕ). shifts n (h * 2 ^ 4)) f
    ∙ shifts-add 4 (4 * k) (h * 2 ^ 4)
    ∙ ap (shifts (4 * k)) (ap (shifts 4) (sym (xor_zero_r (h * 2 ^ 4))) ∙ shifts-above 4 h 0 ∙ ap (bit_xor h) (shifts-zero 4) ∙ xor_zero_r h)

-- of k + 1 digits the lowest goes out by all the shifts, those above it by four less
digit-out : (k x : ℕ) → shifts (4 * (k + 1)) x ≡ bit_xor (shifts (4 * (k + 1)) (x % 16)) (shifts (4 * k) (x / 16))
digit-out k x =
    let e : x ≡ x / 16 * 2 ^ 4 + x % 16 = omega arith in
    ap (shifts (4 * (k + 1))) (e ∙ sym (xor_shifted (x / 16) 4 (x % 16) (omega arith)) ∙ xor_comm (x / 16 * 2 ^ 4) (x % 16))
    ∙ shifts-xor (4 * (k + 1)) (x % 16) (x / 16 * 2 ^ 4)
    ∙ ap (bit_xor (shifts (4 * (k + 1)) (x % 16))) (come-down k (x / 16))

-- an entry of the table of digits
pub at-digit : (ts : List ℕ) → ts ≡ digit_table → (k d : ℕ) → k < 10 → d < 16 → get_or ts (16 * k + d) 0 ≡ shifts (4 * (k + 1)) d
unfolding digit_table
at-digit ts e k d h small =
    let ek : (16 * k + d) / 16 ≡ k = omega arith in
    let ed : (16 * k + d) % 16 ≡ d = omega arith in
    ap (λ (l : List ℕ). get_or l (16 * k + d) 0) e
    ∙ entry (λ i. shifts (4 * (i / 16 + 1)) (i % 16)) 160 (16 * k + d) (omega arith)
    ∙ ap₂ (λ (p q : ℕ). shifts (4 * (p + 1)) q) ek ed

-- all digits are left, and nothing is out
pub digits-start : (n x : ℕ) → bit_xor 0 (shifts (4 * (2 * n)) x) ≡ shifts (8 * n) x
digits-start n x =
    let e : 4 * (2 * n) ≡ 8 * n = omega arith in
    xor_zero_l (shifts (4 * (2 * n)) x) ∙ ap (λ (k : ℕ). shifts k x) e

-- a turn: the digits left, shifted out, give the whole
module _ (left sum rest all : ℕ) (so : bit_xor sum (shifts (4 * left) rest) ≡ all) where
  pub digit-goes : 0 < left → (t : ℕ) → t ≡ shifts (4 * (left - 1 + 1)) (rest % 16) → bit_xor (bit_xor sum t) (shifts (4 * (left - 1)) (rest / 16)) ≡ all
  digit-goes h t e =
      let f : left ≡ left - 1 + 1 = omega arith in
      xor_assoc sum t (shifts (4 * (left - 1)) (rest / 16))
      ∙ ap (bit_xor sum) (ap (λ (y : ℕ). bit_xor y (shifts (4 * (left - 1)) (rest / 16))) e ∙ sym (digit-out (left - 1) rest) ∙ ap (λ (k : ℕ). shifts (4 * k) rest) (sym f))
      ∙ so

  pub digits-end : left ≡ 0 → bit_xor sum rest ≡ all
  unfolding shifts
  digits-end e = sym (ap (λ (k : ℕ). bit_xor sum (shifts (4 * k) rest)) e) ∙ so
