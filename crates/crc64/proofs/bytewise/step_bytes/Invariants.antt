-- The bytes left, put into the sum that is due, give the whole.
use Rattle.crc64.specs.Sum.{bytes_step, due}
use Rattle.std.proofs.Common.{◌≡◌, drop}
use Rattle.crc64.proofs.bytewise.step_bytes.Given as goal

abbrev pub invariant-loop-b : goal.invariant-loop-b
invariant-loop-b l = bytes_step (due l.x) (drop l.b-index l.others) ≡ bytes_step l.start l.bytes
