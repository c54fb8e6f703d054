-- A row and a slot, each stored whole.
use Rattle.cursor_rules.proofs.Stores.{row_fits, slot-fits}
use Rattle.cursor_rules.specs.Cursor.{push, row_of, slot_of}
use Rattle.lent.proofs.Stored.{whole}
use Rattle.lent.specs.Bytes.{window}
use mathlib.Core.Path.{◌≡◌}
use Rattle.builders.proofs.placing.Builder.push.Goals as goal

pub returns-clause-made : goal.returns-clause-made
unfolding push
returns-clause-made c = let er : window c.row-row.result 0 16 ≡ row_of c.args.f = rw (c.row-row.ensures, whole (row_of c.args.f) 16 (row_fits c.args.f)) in
    let es : window c.slot-slot.result 0 33 ≡ slot_of c.args.name.now = rw (c.slot-slot.ensures, whole (slot_of c.args.name.now) 33 (slot-fits c.args.name.now)) in
    rw (c.copy.ensures, c.copy-2.ensures, er, es, c.end_of-self.ensures.0)
