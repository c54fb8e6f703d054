-- The padding and the field, where there is room for both.
use Prim.Native.Nat.{◌+◌}
use Rattle.cursor_rules.proofs.Places.{lays, lays-not, then-push}
use Rattle.cursor_rules.proofs.Rooms.{room-there}
use Rattle.cursor_rules.specs.Cursor.{fits, gaps, room}
use Rattle.field.specs.Field.{end_of}
use mathlib.Core.Bool.{false, true}
use mathlib.Core.Path.{◌∙◌, ◌≡◌, sym}
use native.Mathlib.Omega.{arith}
use Rattle.builders.specs.Builder.{building_of}
use Rattle.builders.proofs.placing.Builder.lay.Goals as goal

pub returns-then-not-has_room-clause-made : goal.returns-then-not-has_room-clause-made
returns-then-not-has_room-clause-made c = let e : fits (gaps c.args.self.now.state c.args.f.offset + 1) (end_of c.args.f) (building_of c.args.self.now) ≡ false =
    rw (← c.end_of.ensures.0, ← c.gaps.ensures.0) (sym c.has_room.ensures ∙ c.if-not-has_room.true) in
    lays-not c.args.cat.now (building_of c.args.self.now) c.args.f c.args.name.now e

pub pad_to-requires : goal.pad_to-requires
pad_to-requires c = let e : fits (gaps c.args.self.now.state c.args.f.offset + 1) (end_of c.args.f) (building_of c.args.self.now) ≡ true =
    rw (← c.end_of.ensures.0, ← c.gaps.ensures.0) (sym c.has_room.ensures ∙ c.if-not-has_room.false) in
    let z = room-there (gaps c.args.self.now.state c.args.f.offset + 1) c.args.self.now.state.count (room (building_of c.args.self.now)) (end_of c.args.f) e in
    (omega arith, omega arith)

pub push-requires : goal.push-requires
push-requires c = let e : fits (gaps c.args.self.now.state c.args.f.offset + 1) (end_of c.args.f) (building_of c.args.self.now) ≡ true =
    rw (← c.end_of.ensures.0, ← c.gaps.ensures.0) (sym c.has_room.ensures ∙ c.if-not-has_room.false) in
    let z = room-there (gaps c.args.self.now.state c.args.f.offset + 1) c.args.self.now.state.count (room (building_of c.args.self.now)) (end_of c.args.f) e in
    let p = then-push c.args.cat.now (building_of c.args.self.now) c.args.f.offset c.pad_to.new.self.state _ _ c.pad_to.ensures.made z.0 in
    (p.0, p.1, p.2, omega arith)

pub returns-clause-made : goal.returns-clause-made
returns-clause-made c = let e : fits (gaps c.args.self.now.state c.args.f.offset + 1) (end_of c.args.f) (building_of c.args.self.now) ≡ true =
    rw (← c.end_of.ensures.0, ← c.gaps.ensures.0) (sym c.has_room.ensures ∙ c.if-not-has_room.false) in
    lays c.args.cat.now (building_of c.args.self.now) c.args.f c.args.name.now c.pad_to.new.self.state c.push.new.self.state _ _ _ _ c.pad_to.ensures.made c.push.ensures.made e
