use Rattle.crc64.proofs.Entries.{by-carry}
use Rattle.crc64.proofs.bytewise.carried.Goals as goal

pub returns : goal.returns
returns c = by-carry c.args.x c.args.b _ c.entry.ensures
