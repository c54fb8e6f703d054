use Rattle.crc64.proofs.Turns.{two_bytes}
use Rattle.crc64.proofs.bitwise.U16Summand.step.Goals as goal

pub returns : goal.returns
returns c = two_bytes c.args.fp c.args.self _ _ c.step-low.ensures c.step.ensures
