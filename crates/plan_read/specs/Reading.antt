-- What the reader answers, and what it leaves: refusal 11, then 16 unless the text is the writer's own of some plan that keeps every rule.
use Rattle.std.specs.Prelude.{ℕ, ◌≤◌, ◌<◌, ◌≡◌, Bool, true, cond, ◌&&◌, List, Result, Ok, Err, leb, eqb, length}
use Rattle.std.proofs.lemmas.List.Edits.{sets}
use Rattle.limits.specs.declared.refusal.Refusal.{Refusal}
use Rattle.limits.specs.declared.refusal.Refusal.TheVariants.{BadPlan, NoRoom}
use Rattle.lent.specs.Scan.{alike}
use Rattle.slot.specs.Plan.{Plan, plan_ok}
use Rattle.slot.specs.Slot.{slot_size, slot_of}
use Rattle.plan_text.specs.Text.{text_of}
use Rattle.plan_take.specs.Lenient.{plan_as}

-- ---- the promise, which says nothing of how a text is read

-- a text is the writer's own text of a plan that keeps every rule
pub record IsTextOf (t : List ℕ) (p : Plan) : Type 0 where
  pub keeps : plan_ok p ≡ true
  pub written : text_of p ≡ t

-- accepted exactly when there is such a plan, and then the slot's bytes are that plan's, zero wherever it does not reach; what stands
-- past them is as it was. Refused: all is as it was
pub record Reads (t slot : List ℕ) (answer : Result Unit Refusal) (after : List ℕ) : Type 0 where
  pub short : length slot < slot_size → (answer ≡ Err NoRoom) × (after ≡ slot)
  pub found : slot_size ≤ length slot → (p : Plan) → IsTextOf t p → (answer ≡ Ok tt) × (after ≡ sets slot 0 (slot_of p))
  pub none : slot_size ≤ length slot → ((p : Plan) → IsTextOf t p → ⊥) → (answer ≡ Err BadPlan) × (after ≡ slot)

-- ---- the same, computed

-- it keeps every rule, and the text is what the writer would write for it
unfoldable pub accepts : List ℕ → Bool
accepts t = plan_ok (plan_as t) && alike eqb (text_of (plan_as t)) t

unfoldable pub read_of : List ℕ → List ℕ → Result Unit Refusal
read_of t slot = cond (leb slot_size (length slot)) (cond (accepts t) (Ok tt) (Err BadPlan)) (Err NoRoom)

unfoldable pub after_reading : List ℕ → List ℕ → List ℕ
after_reading t slot = cond (leb slot_size (length slot)) (cond (accepts t) (sets slot 0 (slot_of (plan_as t))) slot) slot
