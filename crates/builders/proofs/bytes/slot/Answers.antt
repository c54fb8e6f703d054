-- The name is stored whole, behind its length.
use Rattle.cursor_rules.specs.Cursor.{slot_of}
use Rattle.lent.proofs.Stored.{whole}
use lib.ListN.{length}
use native.Mathlib.Omega.{arith}
use Rattle.builders.proofs.bytes.slot.Goals as goal

pub returns : goal.returns
unfolding slot_of
returns c = rw (c.copy.ensures, whole c.args.name.now (length c.args.name.now) (omega arith))
