-- The check of a plan: what the public call answers. `Reading` of `plan_read` has the reader's promise.
use Rattle.std.specs.Prelude.{ℕ, cond, List, Result, Ok, Err}
use Rattle.limits.specs.declared.refusal.Refusal.{Refusal}
use Rattle.limits.specs.declared.refusal.Refusal.TheVariants.{BadPlan}
use Rattle.slot.specs.Slot.{slot_ok}

-- a plan that is handed over keeps every rule, or is refused
abbrev pub checked_of : List ℕ → Result (Unit {0}) Refusal
checked_of plan = cond (slot_ok plan) (Ok tt) (Err BadPlan)
