-- The least so far and the first of those left are the first of all.
use Prim.Native.Nat.{◌-◌, ◌≤◌, min}
use Rattle.catalogue.specs.Catalogue.{first_of, id_of}
use mathlib.Core.Path.{◌≡◌}
use Rattle.catalogue.proofs.least_id.Given as goal

abbrev pub invariant-loop-id : goal.invariant-loop-id
invariant-loop-id l = (l.best ≤ 255) × (min l.best (first_of l.cat l.class l.id (256 - l.id)) ≡ id_of l.cat l.class)
