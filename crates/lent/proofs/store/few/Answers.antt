use Prim.Native.Nat.{◌-◌}
use Rattle.lent.proofs.Stored.{copied_byte}
use lib.ListN.{length-set}
use mathlib.Core.Path.{◌∙◌, ◌≡◌, refl}
use native.Mathlib.Nat.{add-zero, sub-zero}
use native.Mathlib.Omega.{arith}
use Rattle.lent.proofs.store.few.Goals as goal

pub loop-i-init : goal.loop-i-init
loop-i-init c = (refl, simp (add-zero, sub-zero))

pub loop-i-preserved : goal.loop-i-preserved
loop-i-preserved c = (
  simp length-set (omega arith),
  copied_byte c.args.s.now c.loop-i.d c.args.from c.args.to c.args.n c.loop-i.i (omega arith) (omega arith) ∙ c.loop-i.invariant.1,
)

pub returns : goal.returns
returns c = let z : c.args.n - c.loop-i.i ≡ 0 = omega arith in
    rw (← c.loop-i.invariant.1, z)
