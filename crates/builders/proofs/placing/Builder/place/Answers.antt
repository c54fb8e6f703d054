-- 2, then 15, then 14.
use Rattle.cursor_rules.proofs.Places.{bad-call, bad-shape, past, places-it}
use Rattle.cursor_rules.specs.Cursor.{size_ok}
use mathlib.Core.Bool.{◌&&◌, false, true}
use mathlib.Core.Path.{◌∙◌, ◌≡◌}
use native.Mathlib.Omega.{arith}
use Rattle.builders.specs.Builder.{building_of}
use Rattle.builders.proofs.placing.Builder.place.Goals as goal

pub returns-then-name-gt-MAX_NAME-clause-made : goal.returns-then-name-gt-MAX_NAME-clause-made
returns-then-name-gt-MAX_NAME-clause-made c = bad-shape c.args.cat.now (building_of c.args.self.now) c.args.f c.args.name.now c.args.align c.args.takes c.if-name-gt-MAX_NAME.true

pub returns-then-not-takes-size_ok-clause-made : goal.returns-then-not-takes-size_ok-clause-made
returns-then-not-takes-size_ok-clause-made c = let e : (c.args.takes && size_ok c.args.cat.now c.args.f) ≡ false = rw (← c.size_ok.ensures) (c.if-not-takes-size_ok.true) in
    bad-call c.args.cat.now (building_of c.args.self.now) c.args.f c.args.name.now c.args.align c.args.takes (omega arith) e

pub returns-then-self-gt-MAX_BYTES-clause-made : goal.returns-then-self-gt-MAX_BYTES-clause-made
returns-then-self-gt-MAX_BYTES-clause-made c = let e : (c.args.takes && size_ok c.args.cat.now c.args.f) ≡ true = rw (← c.size_ok.ensures) (c.if-not-takes-size_ok.false) in
    past c.args.cat.now (building_of c.args.self.now) c.args.f c.args.name.now c.args.align c.if-self-gt-MAX_BYTES.true
    ∙ places-it c.args.cat.now (building_of c.args.self.now) c.args.f c.args.name.now c.args.align c.args.takes (omega arith) e

pub returns-clause-made : goal.returns-clause-made
returns-clause-made c = let e : (c.args.takes && size_ok c.args.cat.now c.args.f) ≡ true = rw (← c.size_ok.ensures) (c.if-not-takes-size_ok.false) in
    c.lay.ensures.made ∙ rw c.laid_field.ensures
    (places-it c.args.cat.now (building_of c.args.self.now) c.args.f c.args.name.now c.args.align c.args.takes (omega arith) e)
