-- Demand 3 over what `apply` and `upgrade` leave of a target. Assumes nothing.
use Prim.Native.Nat.{ℕ, ◌≤◌}
use native.Mathlib.Omega.{arith}
use mathlib.Core.Path.{◌≡◌, refl, sym, ap}
use mathlib.Core.Bool.{Bool, true, false, cond, ◌||◌, false≢true}
use mathlib.Core.List.{List, ◌++◌}
use borrow.Author.Tests.{ltb-false}
use lib.Dec.{ltb}
use lib.ListN.{length, take, drop}
use lib.Seq.{length-take-le}
use Rattle.limits.specs.Limits.{max_bytes, max_header}
use Rattle.limits.specs.declared.refusal.Refusal.{Refusal}
use Rattle.limits.specs.declared.refusal.Refusal.TheVariants.{BadHeader, BadLength, NoRoom, BadPlan}
use Rattle.field.specs.Field.{fields_of}
use Rattle.slot.specs.Plan.{Plan}
use Rattle.slot.specs.Slot.{size_in, plan_in, slot_ok}
use Rattle.slot.proofs.Kept.{kept_slot}
use Rattle.plan_rules.specs.Rule.{wants}
use Rattle.interpreter.specs.Run.{upgraded}
use Rattle.std.specs.Prelude.{Result, Err, Some}
use Rattle.dispatch.specs.Dispatch.{done, bad_length, record_in, planned_of, applied_of, after_apply, slot_at, first_plan, upgraded_of, after_upgrade}
use Rattle.dispatch.specs.declared.Upgraded.{Upgraded}
use Rattle.rule.specs.Body.{rule_body}
use Rattle.demand.specs.Demand.{Planned}
use Rattle.demand.proofs.Upgraded.{upgraded-by-rule}
use Rattle.demand.specs.Holds.{Holds}

-- an answer that is no refusal: the test before it did not refuse
passed : (t : Bool) (refusal : Refusal) (rest : Result Upgraded Refusal) {rtype size : ℕ} → cond t (Err refusal) rest ≡ done rtype size → (t ≡ false) × (rest ≡ done rtype size)
passed true refusal rest e = absurd (let z : ◌≡◌ {A = ℕ} 0 1 = cc in omega arith)
passed false refusal rest e = (refl, e)

passes : (t : Bool) (refusal : Refusal) (rest : Result Upgraded Refusal) {rtype size : ℕ} → cond t rest (Err refusal) ≡ done rtype size → t ≡ true
passes true refusal rest e = refl
passes false refusal rest e = absurd (let z : ◌≡◌ {A = ℕ} 0 1 = cc in omega arith)

or-none : (a b : Bool) → (a || b) ≡ false → (a ≡ false) × (b ≡ false)
or-none true b e = absurd (false≢true (sym e))
or-none false b e = (refl, e)

module _ {cat src_table dst_table marks : List ℕ} {p : Plan} (made : Planned cat src_table dst_table marks p) (src : List ℕ) (stated : ℕ) (dst : List ℕ) (long : p.src_base ≤ stated) where
  -- header, the field rule's body of the record, tail
  abbrev whole : List ℕ
  whole = take p.header dst ++ (rule_body cat (fields_of src_table) (wants cat marks dst_table) (record_in src stated) p.header p.body ++ drop p.size dst)

  slot-by-rule : (slot : List ℕ) {rtype size : ℕ} → Holds p slot → stated ≤ length src → planned_of slot dst ≡ done rtype size
      → upgraded (plan_in slot) (record_in src stated) dst ≡ whole
  unfolding planned_of
  slot-by-rule slot h lent e =
      let a = passed (ltb (length dst) (size_in slot)) NoRoom _ e in
      let ok = passes (slot_ok slot) BadPlan _ a.1 in
      let room : size_in slot ≤ length dst = ltb-false _ _ a.0 in
      let size : size_in slot ≡ p.size = ap (λ (q : Plan). q.size) h.same in
      let all : length (record_in src stated) ≡ stated = length-take-le stated src lent in
      upgraded-by-rule made {q = plan_in slot} (record { valid = (kept_slot slot ok).valid; same = h.same; steps = h.steps }) (record_in src stated) dst (omega arith) (omega arith)

  -- one plan
  pub apply-by-rule : (slot : List ℕ) {rtype size : ℕ} → Holds p slot → applied_of slot src stated dst ≡ done rtype size → after_apply slot src stated dst ≡ whole
  unfolding applied_of
  apply-by-rule slot h e =
      let a = passed (bad_length src stated) BadLength _ e in
      let lent : stated ≤ length src = ltb-false _ _ (or-none (ltb (length src) stated) (ltb max_bytes stated) a.0).0 in
      rw e (slot-by-rule slot h lent a.1)

  -- the dispatch, where the first plan of the rtype is such a one
  pub upgrade-by-rule : (plans unplanned : List ℕ) (of src_header dst_header at : ℕ) {rtype size : ℕ} → first_plan plans of ≡ Some at → Holds p (slot_at plans at)
      → upgraded_of plans unplanned of src_header dst_header src stated dst ≡ done rtype size
      → after_upgrade plans unplanned of src_header dst_header src stated dst ≡ whole
  unfolding upgraded_of
  upgrade-by-rule plans unplanned of src_header dst_header at f h e =
      let a = passed (ltb max_header src_header || ltb max_header dst_header) BadHeader _ e in
      let b = passed (bad_length src stated || ltb stated src_header) BadLength _ a.1 in
      let c = or-none (bad_length src stated) (ltb stated src_header) b.0 in
      let lent : stated ≤ length src = ltb-false _ _ (or-none (ltb (length src) stated) (ltb max_bytes stated) c.0).0 in
      let d : planned_of (slot_at plans at) dst ≡ done _ _ = rw f at b.1 in
      rw (e, f) (slot-by-rule (slot_at plans at) h lent d)
