-- The ids left decide.
use Prim.Native.Nat.{◌-◌}
use Rattle.catalogue.specs.Catalogue.{first_of, id_of}
use mathlib.Core.Path.{◌≡◌}
use Rattle.catalogue.proofs.search_id.Given as goal

abbrev pub invariant-loop-id : goal.invariant-loop-id
invariant-loop-id l = first_of l.cat l.class l.id (255 - l.id) ≡ id_of l.cat l.class
