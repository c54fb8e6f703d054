-- Behind the cursor or without room, or over a gap.
use Rattle.builders.specs.Builder.{building_of}
use Rattle.cursor_rules.proofs.Rooms.{moved, room-there, unmoved}
use Rattle.cursor_rules.specs.Cursor.{fits, gaps, room}
use Rattle.lent.proofs.Scan.{both}
use lib.Dec.{leb}
use mathlib.Core.Bool.{◌&&◌, false, true}
use mathlib.Core.Path.{◌≡◌}
use native.Mathlib.Omega.{arith}
use Rattle.builders.proofs.placing.Builder.move_to.Goals as goal

pub returns-then-not-self-to-clause-made : goal.returns-then-not-self-to-clause-made
returns-then-not-self-to-clause-made c = let b = building_of c.args.self.now in
    let e : (leb b.state.cursor c.args.to && fits (gaps b.state c.args.to) c.args.to b) ≡ false = rw (← c.gaps.ensures.0, ← c.has_room.ensures) c.if-not-self-to.true in
    unmoved c.args.cat.now c.args.to b e

pub pad_to-requires : goal.pad_to-requires
pad_to-requires c = let b = building_of c.args.self.now in
    let e : (leb b.state.cursor c.args.to && fits (gaps b.state c.args.to) c.args.to b) ≡ true = rw (← c.gaps.ensures.0, ← c.has_room.ensures) c.if-not-self-to.false in
    let z = room-there (gaps b.state c.args.to) b.state.count (room b) c.args.to (both (leb b.state.cursor c.args.to) (fits (gaps b.state c.args.to) c.args.to b) e).1 in
    (omega arith, z.0)

pub returns-clause-made : goal.returns-clause-made
returns-clause-made c = let b = building_of c.args.self.now in
    let e : (leb b.state.cursor c.args.to && fits (gaps b.state c.args.to) c.args.to b) ≡ true = rw (← c.gaps.ensures.0, ← c.has_room.ensures) c.if-not-self-to.false in
    moved c.args.cat.now c.args.to b _ _ _ e c.pad_to.ensures.made
