use Rattle.crc64.proofs.Digits.{at-digit, digit-goes, digits-end, digits-start}
use Rattle.crc64.proofs.Words.{number-goes}
use Rattle.std.proofs.Common.{◌-◌, ◌%◌, ◌∙◌, arith}
use lib.Bits.{bit_xor}
use Rattle.crc64.proofs.digitwise.step_number.Goals as goal

pub loop-above-init : goal.loop-above-init
loop-above-init c = digits-start c.args.n (bit_xor c.args.fp c.args.v)

pub loop-above-preserved : goal.loop-above-preserved
loop-above-preserved c = let l = c.loop-above in
    digit-goes l.above l.sum l.rest _ l.invariant (omega arith) _ (at-digit _ c.table-t.ensures (l.above - 1) (l.rest % 16) (omega arith) (omega arith))

pub returns : goal.returns
returns c = digits-end c.loop-above.above c.loop-above.sum c.loop-above.rest _ c.loop-above.invariant (omega arith) ∙ number-goes c.args.n c.args.fp c.args.v c.requires.1
