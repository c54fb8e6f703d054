use Prim.Native.Nat.{◌-◌, ◌<◌}
use Rattle.decimal.specs.Decimal.{pasts}
use Rattle.plan_take.proofs.Drawn.{numbers-turn, pasts-turn}
use Rattle.plan_take.specs.Lenient.{numbers_as}
use lib.ListN.{length-set}
use mathlib.Core.Path.{◌≡◌, refl}
use native.Mathlib.Omega.{arith}
use Rattle.plan_take.proofs.take_numbers.Goals as goal

pub loop-k-init : goal.loop-k-init
loop-k-init c = let z : c.args.n - 0 ≡ c.args.n = omega arith in (refl, c.requires.0, rw z, rw z)

pub bounds-out-k-in-loop-k : goal.bounds-out-k-in-loop-k
bounds-out-k-in-loop-k c = simp length-set (omega arith)

pub loop-k-preserved : goal.loop-k-preserved
loop-k-preserved c = let lt : c.loop-k.k < c.args.n = omega arith in
    (simp length-set (omega arith), c.take_number-number.ensures.inside, rw (c.low.ensures, c.high.ensures) (numbers-turn c.args.n c.loop-k.k lt c.take_number-number.ensures c.loop-k.out _ c.loop-k.invariant.2), pasts-turn c.args.n c.loop-k.k lt c.take_number-number.ensures _ c.loop-k.invariant.3)

pub returns : goal.returns
unfolding numbers_as pasts
returns c = let z : c.args.n - c.loop-k.k ≡ 0 = omega arith in (rw z at c.loop-k.invariant.2, rw z at c.loop-k.invariant.3, c.loop-k.invariant.1)
