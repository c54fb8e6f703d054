use Prim.Native.Nat.{◌*◌, ◌+◌, ◌-◌}
use Rattle.plan_take.proofs.Drawn.{drawn-turn}
use Rattle.plan_take.specs.Lenient.{steps_as}
use Rattle.slot.proofs.Packing.{packed-size}
use Rattle.slot.specs.Slot.{steps_from}
use lib.ListN.{length}
use mathlib.Core.Path.{◌≡◌, ap, refl}
use native.Mathlib.Omega.{arith}
use Rattle.plan_take.proofs.take_steps.Goals as goal

pub loop-k-init : goal.loop-k-init
loop-k-init c = let whole : c.args.count - 0 ≡ c.args.count = omega arith in (refl, c.requires.0, rw whole)

pub copy-requires : goal.copy-requires
copy-requires c = let e = ap length c.packed-bytes.ensures in let p = packed-size c.take_step-taken.result.step in (omega arith, omega arith)

pub loop-k-preserved : goal.loop-k-preserved
loop-k-preserved c =
    let l = c.loop-k in
    let at : steps_from + 16 * (l.k + 1) ≡ (steps_from + 16 * l.k) + 16 = omega arith in
    let left : c.args.count - (l.k + 1) ≡ c.args.count - l.k - 1 = omega arith in
    (omega arith, c.take_step-taken.ensures.2, rw (at, left, c.copy.ensures) (drawn-turn c.args.text.now l.out _ c.packed-bytes.result (c.args.count - l.k) l.next c.take_step-taken.result.next (steps_from + 16 * l.k) c.take_step-taken.result.step (omega arith) c.take_step-taken.ensures.0 c.take_step-taken.ensures.1 c.packed-bytes.ensures l.invariant.2))

pub returns : goal.returns
unfolding steps_as
returns c = let none : c.args.count - c.loop-k.k ≡ 0 = omega arith in rw none at c.loop-k.invariant.2
