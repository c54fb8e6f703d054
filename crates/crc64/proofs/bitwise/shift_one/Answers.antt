-- Zero less the low bit, wrapped, is the mask.
use Rattle.crc64.proofs.Shifts.{masked, shift-product}
use Rattle.std.proofs.Common.{◌≡◌, ℕ, ◌+◌, ◌/◌, ◌%◌, ◌^◌, sym, ap, ◌∙◌, arith}
use lib.Bits.{bit_and, bit_xor, and_mask}
use Rattle.crc64.proofs.bitwise.shift_one.Goals as goal

pub returns : goal.returns
returns c = let fp : ℕ = c.args.fp in
    let m : ℕ = c.wrapping_sub_u64-mask.result in
    let wraps : (m + bit_and fp 1) % 2 ^ 64 ≡ 0 = c.wrapping_sub_u64-mask.ensures.value in
    ap (bit_xor (fp / 2))
    (masked (fp % 2) m (omega arith) c.wrapping_sub_u64-mask.type_inv (ap (λ (d : ℕ). (m + d) % 2 ^ 64) (sym (and_mask fp 1)) ∙ wraps))
    ∙ sym (shift-product fp)
