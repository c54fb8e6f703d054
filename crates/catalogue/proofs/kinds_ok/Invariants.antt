-- The ids left decide, together with what was found so far.
use Prim.Native.Nat.{◌-◌}
use Rattle.catalogue.specs.Catalogue.{kinds, kind_ok}
use Rattle.lent.specs.Bytes.{byte_at}
use Rattle.lent.specs.Scan.{gather, every}
use mathlib.Core.Bool.{◌&&◌}
use mathlib.Core.Path.{◌≡◌}
use Rattle.catalogue.proofs.kinds_ok.Given as goal

abbrev pub invariant-loop-kind : goal.invariant-loop-kind
invariant-loop-kind l = (l.good && every kind_ok (gather (byte_at l.cat) 1 l.kind-index (256 - l.kind-index))) ≡ every kind_ok (kinds l.cat)
