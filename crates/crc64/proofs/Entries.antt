-- A table whose entries a function gives, read at a place. Assumes nothing.
use Rattle.std.proofs.Common.{◌≡◌, ℕ, zero, suc, ◌+◌, ◌/◌, ◌<◌, List, get_or, sym, ap, ◌∙◌, arith}
use lib.Bits.{bit_xor, bit_and, and_mask, mask_lt, xor_comm}
use Rattle.lent.specs.Scan.{gather}
use Rattle.crc64.specs.Sum.{shifts, due, byte_step, byte_table}
use Rattle.crc64.proofs.Shifts.{shifts-split, byte_split}
use Rattle.crc64.proofs.Xor.{xor_assoc}

entry-from : (f : ℕ → ℕ) (at n k : ℕ) → k < n → get_or (gather f 1 at n) k 0 ≡ f (at + k)
unfolding gather
entry-from f at zero k h = omega arith
entry-from f at (suc n) zero h = let e : at + 0 ≡ at = omega arith in rw e
entry-from f at (suc n) (suc k) h =
    let e : at + suc k ≡ (at + 1) + k = omega arith in
    entry-from f (at + 1) n k (omega arith) ∙ ap f (sym e)

pub entry : (f : ℕ → ℕ) (n k : ℕ) → k < n → get_or (gather f 1 0 n) k 0 ≡ f k
entry f n k h = let e : 0 + k ≡ k = omega arith in entry-from f 0 n k h ∙ ap f e

-- the step that reads an entry
pub by-entry : (fp b t : ℕ) → b < 256 → t ≡ shifts 8 (bit_and (bit_xor fp b) 255) → bit_xor (fp / 256) t ≡ byte_step fp b
by-entry fp b t small e =
    ap (bit_xor (fp / 256)) (e ∙ ap (shifts 8) (and_mask (bit_xor fp b) 8)) ∙ byte_split fp b small

-- an entry of the table of bytes
pub at_byte : (ts : List ℕ) → ts ≡ byte_table → (x : ℕ) → get_or ts (bit_and x 255) 0 ≡ shifts 8 (bit_and x 255)
unfolding byte_table
at_byte ts e x = ap (λ (l : List ℕ). get_or l (bit_and x 255) 0) e ∙ entry (shifts 8) 256 (bit_and x 255) (mask_lt x 8)

-- the shifts that are due, by an entry
pub by-due : (x t : ℕ) → t ≡ shifts 8 (bit_and x 255) → bit_xor (x / 256) t ≡ due x
by-due x t e = ap (bit_xor (x / 256)) (e ∙ ap (shifts 8) (and_mask x 8)) ∙ sym (shifts-split 8 x)

-- and the next byte beside it
pub by-carry : (x b t : ℕ) → t ≡ shifts 8 (bit_and x 255) → due (bit_xor (bit_xor (x / 256) b) t) ≡ byte_step (due x) b
unfolding byte_step
by-carry x b t e =
    ap due (xor_assoc (x / 256) b t ∙ ap (bit_xor (x / 256)) (xor_comm b t) ∙ sym (xor_assoc (x / 256) t b) ∙ ap (λ (y : ℕ). bit_xor y b) (by-due x t e))
