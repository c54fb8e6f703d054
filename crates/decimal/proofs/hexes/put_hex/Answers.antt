use Prim.Native.Nat.{◌*◌, ◌+◌, ◌-◌, ◌<◌}
use Rattle.decimal.proofs.Nibbles.{hex-length, part_at, part-length, put-turn}
use Rattle.decimal.specs.Hex.{hex}
use Rattle.lent.proofs.Bytes.{window-length}
use Rattle.lent.specs.Bytes.{window}
use lib.ListN.{length-set}
use mathlib.Core.Path.{◌≡◌, refl}
use native.Mathlib.Omega.{arith}
use Rattle.decimal.proofs.hexes.put_hex.Goals as goal

pub loop-i-init : goal.loop-i-init
loop-i-init c = let a : c.args.at + 2 * 0 ≡ c.args.at = omega arith in
    let b : c.args.from + 0 ≡ c.args.from = omega arith in
    let z : c.args.n - 0 ≡ c.args.n = omega arith in
    (refl, rw (a, b, z))

pub loop-i-preserved : goal.loop-i-preserved
loop-i-preserved c = let h : c.loop-i.i < c.args.n = omega (arith, part-length c.args.s.now c.args.from c.args.n (omega arith)) in (
  simp length-set (omega arith),
  rw (c.glyph.ensures, c.glyph-in-loop-i.ensures, part_at c.args.s.now c.args.from c.args.n c.loop-i.i h) (put-turn c.args.s.now c.args.from c.args.n c.loop-i.i h (omega arith) c.loop-i.out _ c.args.at c.loop-i.invariant.1),
)

pub returns : goal.returns
unfolding hex
returns c = let p = part-length c.args.s.now c.args.from c.args.n (omega arith) in
    let z : c.args.n - c.loop-i.i ≡ 0 = omega arith in
    let l = window-length c.args.s.now c.args.from c.args.n (omega arith) in
    let h = hex-length (window c.args.s.now c.args.from c.args.n) in
    record { stored = rw z at c.loop-i.invariant.1; behind = omega arith }
