-- What is counted and what is left to count are the whole.
use Prim.Native.Nat.{◌+◌, ◌-◌, ◌≤◌}
use Rattle.catalogue.specs.Catalogue.{within}
use Rattle.lent.specs.Bytes.{byte_at}
use Rattle.lent.specs.Scan.{gather, tally}
use mathlib.Core.Path.{◌≡◌}
use Rattle.catalogue.proofs.count_half.Given as goal

abbrev pub invariant-loop-kind : goal.invariant-loop-kind
invariant-loop-kind l = (l.n ≤ l.kind-index)
    × (l.n + tally (within l.low l.high) (gather (byte_at l.cat) 1 (l.from + l.kind-index) (128 - l.kind-index)) ≡ tally (within l.low l.high) (gather (byte_at l.cat) 1 l.from 128))
