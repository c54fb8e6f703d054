use Prim.Native.Nat.{◌+◌, ◌-◌}
use Rattle.decimal.proofs.Nibbles.{take-turn}
use Rattle.decimal.specs.Hex.{unhex}
use lib.ListN.{length-set}
use mathlib.Core.Path.{◌≡◌, refl}
use native.Mathlib.Omega.{arith}
use Rattle.decimal.proofs.hexes.take_hex.Goals as goal

pub loop-i-init : goal.loop-i-init
loop-i-init c = let b : c.args.to + 0 ≡ c.args.to = omega arith in let z : c.args.n - 0 ≡ c.args.n = omega arith in (refl, rw (b, z))

pub loop-i-preserved : goal.loop-i-preserved
loop-i-preserved c = (simp length-set (omega arith), rw (c.nibble-high.ensures.0, c.nibble-low.ensures.0, c.byte_at.ensures, c.byte_at-in-loop-i.ensures) (take-turn c.args.text.now c.loop-i.out _ c.args.n c.loop-i.i c.args.to (omega arith) c.loop-i.invariant.1))

pub returns : goal.returns
unfolding unhex
returns c = let z : c.args.n - c.loop-i.i ≡ 0 = omega arith in rw z at c.loop-i.invariant.1
