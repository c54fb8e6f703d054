use Prim.Native.Nat.{◌*◌, ◌+◌, ◌-◌, ◌<◌}
use Rattle.decimal.proofs.Nibbles.{part_at, part-length, same-goes, same-stops}
use Rattle.decimal.specs.Hex.{hex}
use Rattle.lent.specs.Scan.{alike}
use mathlib.Core.Path.{◌≡◌}
use native.Mathlib.Omega.{arith}
use Rattle.decimal.proofs.hexes.same_hex.Goals as goal

pub loop-i-init : goal.loop-i-init
loop-i-init c = let a : c.args.at + 2 * 0 ≡ c.args.at = omega arith in
    let b : c.args.from + 0 ≡ c.args.from = omega arith in
    let z : c.args.n - 0 ≡ c.args.n = omega arith in
    let y : 2 * c.args.n - 2 * 0 ≡ 2 * c.args.n = omega arith in
    rw (a, b, z, y)

pub returns-then-not-glyph-text : goal.returns-then-not-glyph-text
returns-then-not-glyph-text c = let h : c.loop-i.i < c.args.n = omega (arith, part-length c.args.s.now c.args.from c.args.n (omega arith)) in
    same-stops c.args.s.now c.args.from c.args.n c.loop-i.i h (omega arith) c.args.text.now c.args.at _ (omega arith) c.loop-i.invariant
    (rw (← part_at c.args.s.now c.args.from c.args.n c.loop-i.i h, ← c.glyph.ensures, ← c.glyph-in-loop-i.ensures) c.if-not-glyph-text.true)

pub loop-i-preserved : goal.loop-i-preserved
loop-i-preserved c = let h : c.loop-i.i < c.args.n = omega (arith, part-length c.args.s.now c.args.from c.args.n (omega arith)) in
    same-goes c.args.s.now c.args.from c.args.n c.loop-i.i h (omega arith) c.args.text.now c.args.at _ (omega arith) c.loop-i.invariant
    (rw (← part_at c.args.s.now c.args.from c.args.n c.loop-i.i h, ← c.glyph.ensures, ← c.glyph-in-loop-i.ensures) c.if-not-glyph-text.false)

pub returns : goal.returns
unfolding hex alike
returns c = let l = part-length c.args.s.now c.args.from c.args.n (omega arith) in
    let z : c.args.n - c.loop-i.i ≡ 0 = omega arith in
    let y : 2 * c.args.n - 2 * c.loop-i.i ≡ 0 = omega arith in
    rw (z, y) at c.loop-i.invariant
