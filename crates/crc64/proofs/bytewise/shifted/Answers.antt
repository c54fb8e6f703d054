use Rattle.crc64.proofs.Entries.{by-due}
use Rattle.crc64.proofs.bytewise.shifted.Goals as goal

pub returns : goal.returns
returns c = by-due c.args.x _ c.entry.ensures
