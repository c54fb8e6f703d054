-- Avro's fingerprint is the sum of the bytes. Assumes nothing.
use Rattle.std.proofs.Common.{◌≡◌, ℕ, zero, suc, ◌-◌, ◌*◌, ◌/◌, ◌%◌, ◌^◌, ◌<◌, List, [], ◌∷◌, sym, refl, ap, ◌∙◌, arith}
use lib.Bits.{bit_xor, bit_and, and_comm, and_mask, mask_lt}
use Rattle.lent.specs.Bytes.{Bytes}
use Rattle.crc64.specs.Sum.{empty, shift, shifts, byte_step, bytes_step}
use Rattle.crc64.specs.Avro.{EMPTY, negated, turn, turns, fp_table, print_byte, print_from, fingerprint}
use Rattle.crc64.proofs.Shifts.{masked, shift-product}
use Rattle.crc64.proofs.Entries.{entry, by-entry}

negated-masks : (d : ℕ) → d < 2 → bit_and EMPTY (negated d) ≡ d * empty
unfolding negated
negated-masks d small =
    and_comm EMPTY ((2 ^ 64 - d) % 2 ^ 64) ∙ masked d ((2 ^ 64 - d) % 2 ^ 64) small (omega arith) (omega arith)

turn-shift : (fp : ℕ) → turn fp ≡ shift fp
unfolding turn
turn-shift fp =
    ap (bit_xor (fp / 2))
    (ap (λ (d : ℕ). bit_and EMPTY (negated d)) (and_mask fp 1) ∙ negated-masks (fp % 2) (omega arith))
    ∙ sym (shift-product fp)

turns-shifts : (n fp : ℕ) → turns n fp ≡ shifts n fp
unfolding turns shifts
turns-shifts zero fp = refl
turns-shifts (suc n) fp = ap (turns n) (turn-shift fp) ∙ turns-shifts n (shift fp)

byte-agrees : (fp b : ℕ) → b < 256 → print_byte fp b ≡ byte_step fp b
unfolding print_byte fp_table
byte-agrees fp b small =
    let i : ℕ = bit_and (bit_xor fp b) 255 in
    by-entry fp b _ small (entry (turns 8) 256 i (mask_lt (bit_xor fp b) 8) ∙ turns-shifts 8 i)

pub agree-from : (fp : ℕ) (bs : List ℕ) → Bytes bs → print_from fp bs ≡ bytes_step fp bs
unfolding print_from bytes_step
agree-from fp [] small = refl
agree-from fp (b ∷ bs) small =
    ap (λ (x : ℕ). print_from x bs) (byte-agrees fp b (small 0)) ∙ agree-from (byte_step fp b) bs (λ i. small (suc i))

pub agree : (bs : List ℕ) → Bytes bs → fingerprint bs ≡ bytes_step empty bs
unfolding fingerprint
agree bs small = agree-from empty bs small
