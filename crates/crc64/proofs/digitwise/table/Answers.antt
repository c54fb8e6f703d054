-- The rule's 64 values are computed here, all at once, and are the constant's.
use Rattle.crc64.specs.Sum.{digit_table, shift, shifts}
use Rattle.crc64.specs.Sum.{shift, shifts, digit_table}
use Rattle.lent.specs.Scan.{gather}
use Rattle.std.proofs.Common.{refl}
use Rattle.crc64.proofs.digitwise.table.Goals as goal

pub returns : goal.returns
unfolding digit_table gather shifts shift
returns c = refl
