use Rattle.std.proofs.Common.{◌≡◌, ◌+◌, ◌-◌, refl, arith}
use Rattle.crc64.specs.Sum.{byte_step}
use Rattle.crc64.proofs.Turns.{shift-goes, shifts-end}
use Rattle.crc64.proofs.bitwise.U8Summand.step.Goals as goal

pub loop-turn-init : goal.loop-turn-init
unfolding byte_step
loop-turn-init c = refl

pub loop-turn-preserved : goal.loop-turn-preserved
loop-turn-preserved c = let e : 8 - (c.loop-turn._turn + 1) ≡ 8 - c.loop-turn._turn - 1 = omega arith in
    rw e (shift-goes (8 - c.loop-turn._turn) c.loop-turn.fp _ c.loop-turn.invariant (omega arith) _ c.shift_one-fp.ensures)

pub returns : goal.returns
returns c = shifts-end (8 - c.loop-turn._turn) c.loop-turn.fp _ c.loop-turn.invariant (omega arith)
