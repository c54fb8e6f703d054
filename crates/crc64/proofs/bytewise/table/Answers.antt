-- The rule's 256 values are computed here, all at once, and are the constant's.
use Rattle.crc64.specs.Sum.{shift, shifts, byte_table}
use Rattle.lent.specs.Scan.{gather}
use Rattle.std.proofs.Common.{refl}
use Rattle.crc64.proofs.bytewise.table.Goals as goal

pub returns : goal.returns
unfolding byte_table gather shifts shift
returns c = refl
