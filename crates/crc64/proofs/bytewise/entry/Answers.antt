use Rattle.crc64.proofs.Entries.{at_byte}
use Rattle.crc64.proofs.bytewise.entry.Goals as goal

pub returns : goal.returns
returns c = at_byte _ c.table.ensures c.args.x
