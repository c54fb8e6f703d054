-- A slot that holds a plan, or one that differs from it only in how copies inside the source base are cut or joined.
use Rattle.std.specs.Prelude.{◌≡◌, List, ℕ}
use Rattle.slot.specs.Plan.{Plan}
use Rattle.slot.specs.Slot.{plan_in}
use Rattle.rule.specs.Recut.{Recut}
use Rattle.demand.specs.Demand.{with_steps}

pub record Holds (p : Plan) (slot : List ℕ) : Type 0 where
  pub same : plan_in slot ≡ with_steps p (plan_in slot).steps
  pub steps : Recut p.src_base p.steps (plan_in slot).steps
