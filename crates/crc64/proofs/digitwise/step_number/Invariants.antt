-- The digits left, shifted out, give the whole.
use Rattle.crc64.specs.Sum.{shifts}
use Rattle.std.proofs.Common.{◌≡◌, ◌*◌}
use lib.Bits.{bit_xor}
use Rattle.crc64.proofs.digitwise.step_number.Given as goal

abbrev pub invariant-loop-above : goal.invariant-loop-above
invariant-loop-above l = bit_xor l.sum (shifts (4 * l.above) l.rest) ≡ shifts (8 * l.n) (bit_xor l.fp l.v)
