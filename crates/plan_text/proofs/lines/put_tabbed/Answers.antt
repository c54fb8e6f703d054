use Prim.Native.Nat.{◌*◌, ◌+◌, ◌-◌, ◌≤◌}
use Rattle.decimal.specs.Decimal.{cell}
use Rattle.lent.specs.Bytes.{number_at}
use Rattle.plan_text.specs.Text.{tab}
use Rattle.decimal.proofs.Puts.{put-goes, put-left, put-room}
use Rattle.plan_text.proofs.Laid.{tabbed-next, tabbed-none}
use Rattle.plan_text.specs.Held.{tabbed}
use lib.ListN.{length}
use mathlib.Core.Path.{◌≡◌, ap, refl}
use native.Mathlib.Omega.{arith}
use Rattle.plan_text.proofs.lines.put_tabbed.Goals as goal

pub loop-k-init : goal.loop-k-init
loop-k-init c = let whole : c.args.n - 0 ≡ c.args.n = omega arith in rw whole (refl, refl, refl)

pub put_cell-to-requires : goal.put_cell-to-requires
put_cell-to-requires c =
    let room : c.loop-k.to + length (cell (number_at c.args.slot.now (2 * c.loop-k.k) 2) tab) ≤ c.args.at + length (tabbed c.args.slot.now 0 c.args.n) = put-room c.loop-k.to _ _ _ _ (tabbed-next c.args.slot.now c.loop-k.k c.args.n (omega arith)) c.loop-k.invariant.1 in rw c.u16_in.ensures (omega arith)

pub loop-k-preserved : goal.loop-k-preserved
loop-k-preserved c =
    let e = tabbed-next c.args.slot.now c.loop-k.k c.args.n (omega arith) in
    let p = rw c.u16_in.ensures at c.put_cell-to.ensures in
    (omega arith, put-left _ _ _ e p c.loop-k.invariant.1, put-goes _ _ _ e p c.loop-k.invariant.2)

pub returns : goal.returns
returns c =
    let e = tabbed-none c.args.slot.now (2 * c.loop-k.k) (c.args.n - c.loop-k.k) (omega arith) in
    record { stored = rw e at c.loop-k.invariant.2; behind = let l : length (tabbed c.args.slot.now (2 * c.loop-k.k) (c.args.n - c.loop-k.k)) ≡ 0 = ap length e in omega arith }
