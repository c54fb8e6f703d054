-- What the steps are made of: two bytes of a number, and a turn of each loop, where what is left gives what the whole does.
-- Assumes nothing.
use Rattle.std.proofs.Common.{◌≡◌, ℕ, suc, ◌+◌, ◌-◌, ◌/◌, ◌<◌, ◌≤◌, List, length, get_or, drop, sym, ap, ◌∙◌, ap₂, add-one, arith, drop_of_length-le, drop-cons}
use lib.Bits.{bit_and, and_mask}
use Rattle.crc64.specs.Sum.{shift, shifts, byte_step, u16_step, bytes_step}

pub two_bytes : (fp v low r : ℕ) → low ≡ byte_step fp (bit_and v 255) → r ≡ byte_step low (v / 256) → r ≡ u16_step fp v
unfolding u16_step
two_bytes fp v low r first second =
    second ∙ ap (λ (x : ℕ). byte_step x (v / 256)) (first ∙ ap (byte_step fp) (and_mask v 8))

module _ (bs : List ℕ) (fp i all : ℕ) (so : bytes_step fp (drop i bs) ≡ all) where
  pub byte-goes : i < length bs → (r : ℕ) → r ≡ byte_step fp (get_or bs i 0) → bytes_step r (drop (i + 1) bs) ≡ all
  unfolding bytes_step
  byte-goes h r e =
      ap₂ bytes_step e (ap (λ (k : ℕ). drop k bs) (add-one i)) ∙ sym (ap (bytes_step fp) (drop-cons bs i 0 h)) ∙ so

  pub bytes-end : length bs ≤ i → fp ≡ all
  unfolding bytes_step
  bytes-end h = sym (ap (bytes_step fp) (drop_of_length-le bs h)) ∙ so

module _ (left fp all : ℕ) (so : shifts left fp ≡ all) where
  pub shift-goes : 0 < left → (r : ℕ) → r ≡ shift fp → shifts (left - 1) r ≡ all
  unfolding shifts
  shift-goes h r e =
      let f : left ≡ suc (left - 1) = omega arith in
      ap (shifts (left - 1)) e ∙ sym (ap (λ (n : ℕ). shifts n fp) f) ∙ so

  pub shifts-end : left ≡ 0 → fp ≡ all
  unfolding shifts
  shifts-end e = sym (ap (λ (n : ℕ). shifts n fp) e) ∙ so
