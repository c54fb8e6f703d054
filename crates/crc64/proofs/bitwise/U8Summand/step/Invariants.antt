-- The shifts left, of the sum so far, give the byte's step.
use Rattle.std.proofs.Common.{◌≡◌, ◌-◌}
use Rattle.crc64.specs.Sum.{shifts, byte_step}
use Rattle.crc64.proofs.bitwise.U8Summand.step.Given as goal

abbrev pub invariant-loop-turn : goal.invariant-loop-turn
invariant-loop-turn l = shifts (8 - l._turn) l.fp ≡ byte_step l.start l.self
