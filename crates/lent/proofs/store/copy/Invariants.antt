-- What is left to store gives what is left after the first word.
use Prim.Native.Nat.{◌+◌, ◌-◌, ◌*◌, ◌≤◌}
use Rattle.lent.specs.Bytes.{window}
use lib.ListN.{length}
use lib.Seq.{sets}
use mathlib.Core.Path.{◌≡◌}
use Rattle.lent.proofs.store.copy.Given as goal

abbrev pub invariant-loop-k : goal.invariant-loop-k
invariant-loop-k l = (8 * l.k ≤ l.n) × (length l.d ≡ length l.initial.d)
    × (sets l.d (l.to + 8 * l.k) (window l.s (l.from + 8 * l.k) (l.n - 8 * l.k)) ≡ sets l.initial.d (l.to + 8) (window l.s (l.from + 8) (l.n - 8)))
