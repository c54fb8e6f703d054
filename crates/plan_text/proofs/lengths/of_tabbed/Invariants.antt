-- What is left is as long as what is not counted yet.
use Prim.Native.Nat.{◌*◌, ◌+◌, ◌-◌, ◌≤◌}
use Rattle.plan_text.specs.Held.{tabbed}
use lib.ListN.{length}
use mathlib.Core.Path.{◌≡◌}
use Rattle.plan_text.proofs.lengths.of_tabbed.Given as goal

abbrev pub invariant-loop-k : goal.invariant-loop-k
invariant-loop-k l = (l.sum ≤ 6 * l.k) × (l.sum + length (tabbed l.slot (2 * l.k) (l.n - l.k)) ≡ length (tabbed l.slot 0 l.n))
