-- The fields from k on decide, and each that has another id is passed over.
use Prim.Native.Nat.{◌-◌, ◌/◌}
use Rattle.compare.specs.Parts.{Skips}
use lib.ListN.{length}
use Rattle.compare.proofs.skipped.Given as goal

abbrev pub invariant-loop-k : goal.invariant-loop-k
invariant-loop-k l = Skips l.t l.id l.k

abbrev pub decreases-loop-k : goal.decreases-loop-k
decreases-loop-k l = length l.t / 16 - l.k
