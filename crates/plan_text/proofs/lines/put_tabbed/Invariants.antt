-- What is left to store gives what the whole does.
use Prim.Native.Nat.{◌*◌, ◌+◌, ◌-◌}
use Rattle.plan_text.specs.Held.{tabbed}
use lib.ListN.{length}
use lib.Seq.{sets}
use mathlib.Core.Path.{◌≡◌}
use Rattle.plan_text.proofs.lines.put_tabbed.Given as goal

abbrev pub invariant-loop-k : goal.invariant-loop-k
invariant-loop-k l = (length l.out ≡ length l.initial.out)
    × (l.to + length (tabbed l.slot (2 * l.k) (l.n - l.k)) ≡ l.at + length (tabbed l.slot 0 l.n))
    × (sets l.out l.to (tabbed l.slot (2 * l.k) (l.n - l.k)) ≡ sets l.initial.out l.at (tabbed l.slot 0 l.n))
