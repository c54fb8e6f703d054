use Prim.Native.Nat.{◌*◌, ◌-◌}
use Rattle.plan_text.proofs.Laid.{tabbed-wide, tabbed-none}
use Rattle.plan_text.specs.Held.{tabbed}
use lib.ListN.{length}
use mathlib.Core.Path.{◌≡◌, ap}
use native.Mathlib.Omega.{arith}
use Rattle.plan_text.proofs.lengths.of_tabbed.Goals as goal

pub loop-k-init : goal.loop-k-init
loop-k-init c = let whole : c.args.n - 0 ≡ c.args.n = omega arith in rw whole (omega arith, omega arith)

pub loop-k-preserved : goal.loop-k-preserved
loop-k-preserved c =
    let e = tabbed-wide c.args.slot.now c.loop-k.k c.args.n (omega arith) in
    let a = rw c.u16_in.ensures at c.cell_length-sum.ensures.0 in
    let b = c.cell_length-sum.ensures.1 in
    (omega arith, omega arith)

pub returns : goal.returns
returns c =
    let e : length (tabbed c.args.slot.now (2 * c.loop-k.k) (c.args.n - c.loop-k.k)) ≡ 0 = ap length (tabbed-none c.args.slot.now (2 * c.loop-k.k) (c.args.n - c.loop-k.k) (omega arith)) in
    (omega arith, omega arith)
