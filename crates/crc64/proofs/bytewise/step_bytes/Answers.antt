use Rattle.crc64.proofs.Turns.{byte-goes, bytes-end}
use Rattle.crc64.specs.Sum.{due, bytes_step}
use Rattle.std.proofs.Common.{refl, ◌∙◌, arith}
use Rattle.crc64.proofs.bytewise.step_bytes.Goals as goal

pub returns-in_default : goal.returns-in_default
returns-in_default c = bytes-end c.args.bytes.now c.args.start 0 _ refl (omega (arith, c.in_default.ensures.cases))

pub loop-b-init : goal.loop-b-init
unfolding bytes_step
loop-b-init c = rw (c.in-Some.ensures.cases.0, c.begun-x.ensures)

pub loop-b-preserved : goal.loop-b-preserved
loop-b-preserved c = byte-goes c.in-Some.others.now (due c.loop-b.x) c.loop-b.b-index _ c.loop-b.invariant (omega arith) _ c.carried-x.ensures

pub returns : goal.returns
returns c = c.shifted.ensures ∙ bytes-end c.in-Some.others.now (due c.loop-b.x) c.loop-b.b-index _ c.loop-b.invariant (omega arith)
