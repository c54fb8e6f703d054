-- Two answers that meet a public call's promise are equal: a promise leaves nothing open. Assumes nothing.
use mathlib.Core.Path.{◌≡◌, sym, ap, ◌∙◌}
use Rattle.std.specs.Prelude.{Option, Result}
use Rattle.limits.specs.declared.refusal.Refusal.{Refusal}
use Rattle.limits.specs.declared.refusal.Failure.{Failure}
use Rattle.field.specs.declared.FieldDef.{FieldDef}
use Rattle.compare.specs.declared.answer.Verdict.{Verdict}
use Rattle.hash_rules.specs.declared.Walked.{Walked}
use mathlib.Core.Bool.{Bool}
use mathlib.Core.List.{List}
use Prim.Native.Nat.{ℕ}
use lib.ListN.{length}
use Rattle.admission_rules.specs.Admission.{admit_catalogue, admit_of}
use Rattle.tuppenceowl.specs.Answers.{sized_of, windowed_of, found_of, summed_of, booted_of}
use Rattle.tuppenceowl.specs.Comparing.{judged_of, judged_rtype, found_by_id, found_by_name}
use Rattle.tuppenceowl.specs.Texting.{checked_of}
use Rattle.plan_text.specs.Writing.{written_of, after_writing}
use Rattle.plan_read.specs.Reading.{Reads}
use Rattle.plan_read.proofs.Theorems.{reads-one}
use Rattle.crc64.specs.Avro.{fingerprint}
use Rattle.limits.specs.Limits.{default_budget}
use Rattle.field.specs.declared.Holder.{Holder}
use Rattle.cursor_rules.specs.Cursor.{Outcome, outcome, fresh}
use Rattle.cursor_rules.specs.declared.FieldCursor.{FieldCursor}
use Rattle.dispatch.specs.Dispatch.{applied_of, after_apply, upgraded_of, after_upgrade}
use Rattle.dispatch.specs.declared.Upgraded.{Upgraded}
use Rattle.planner.specs.Planner.{planned_of, after_plan}
use Rattle.planner.specs.Select.{selected_of}

equal : {A : Type 0} {x r s : A} → r ≡ x → s ≡ x → r ≡ s
equal p q = p ∙ sym q

pub check-catalogue-unique : (cat : List ℕ) (r s : Result (Unit {0}) Refusal) → r ≡ admit_catalogue cat → s ≡ admit_catalogue cat → r ≡ s
check-catalogue-unique cat r s = equal

pub admit-unique : (cat layout : List ℕ) (r s : Result (Unit {0}) Refusal) → r ≡ admit_of cat layout → s ≡ admit_of cat layout → r ≡ s
admit-unique cat layout r s = equal

pub record-size-unique : (cat layout : List ℕ) (k : ℕ) (r s : Result ℕ Failure) → r ≡ sized_of cat layout k → s ≡ sized_of cat layout k → r ≡ s
record-size-unique cat layout k r s = equal

pub window-unique : (bytes : List ℕ) (offset size : ℕ) (r s : Option (ℕ × ℕ)) → r ≡ windowed_of bytes offset size → s ≡ windowed_of bytes offset size → r ≡ s
window-unique bytes offset size r s = equal

pub field-of-unique : (table : List ℕ) (k : ℕ) (r s : Result (Option FieldDef) Refusal) → r ≡ found_of table k → s ≡ found_of table k → r ≡ s
field-of-unique table k r s = equal

-- ---- the sum, the hash and the boot check

pub sum-unique : (bytes : List ℕ) (r s : ℕ) → r ≡ fingerprint bytes → s ≡ fingerprint bytes → r ≡ s
sum-unique bytes r s = equal

pub layout-hash-within-unique : (cat layout : List ℕ) (k budget : ℕ) (r s : Result Walked Failure) → r ≡ summed_of cat layout k budget → s ≡ summed_of cat layout k budget → r ≡ s
layout-hash-within-unique cat layout k budget r s = equal

pub layout-hash-unique : (cat layout : List ℕ) (k : ℕ) (r s : Result Walked Failure) → r ≡ summed_of cat layout k default_budget → s ≡ summed_of cat layout k default_budget → r ≡ s
layout-hash-unique cat layout k r s = equal

pub boot-check-unique : (cat layout : List ℕ) (k : ℕ) (r s : Result Bool Failure) → r ≡ booted_of cat layout k → s ≡ booted_of cat layout k → r ≡ s
boot-check-unique cat layout k r s = equal

-- ---- the field cursor: `empty`, and one law for the seven calls that answer a place, whose promise is one equation of the answer,
-- the table and the names

pub empty-unique : (holder : Holder) (r s : FieldCursor) → r ≡ fresh holder → s ≡ fresh holder → r ≡ s
empty-unique holder r s = equal

module _ (promised : Outcome) where
  pub cursor-call-unique : (r s : Result FieldCursor Refusal) (t n u m : List ℕ) → outcome r t n ≡ promised → outcome s u m ≡ promised → (r ≡ s) × (t ≡ u) × (n ≡ m)
  cursor-call-unique r s t n u m p q =
      let z : outcome r t n ≡ outcome s u m = equal p q in
      (ap (λ (o : Outcome). o.answer) z, ap (λ (o : Outcome). o.table) z, ap (λ (o : Outcome). o.names) z)

-- ---- the verdict and the lookups

pub verdict-unique : (cat stream : List ℕ) (k : ℕ) (compiled : List ℕ) (r s : Result Verdict Failure) → r ≡ judged_of cat stream k compiled → s ≡ judged_of cat stream k compiled → r ≡ s
verdict-unique cat stream k compiled r s = equal

pub verdict-of-unique : (cat stream : List ℕ) (rtype : ℕ) (compiled : List ℕ) (r s : Result Verdict Failure) → r ≡ judged_rtype cat stream rtype compiled → s ≡ judged_rtype cat stream rtype compiled → r ≡ s
verdict-of-unique cat stream rtype compiled r s = equal

pub field-by-id-unique : (cat layout : List ℕ) (rtype id : ℕ) (r s : Result (Option FieldDef) Refusal) → r ≡ found_by_id cat layout rtype id → s ≡ found_by_id cat layout rtype id → r ≡ s
field-by-id-unique cat layout rtype id r s = equal

pub field-by_name-unique : (cat layout : List ℕ) (rtype : ℕ) (name : List ℕ) (r s : Result (Option FieldDef) Refusal) → r ≡ found_by_name cat layout rtype name → s ≡ found_by_name cat layout rtype name → r ≡ s
field-by_name-unique cat layout rtype name r s = equal

-- ---- selection and planner: the answer, and the room as it is left

pub select-unique : (cat source : List ℕ) (k : ℕ) (target : List ℕ) (schema : Option ℕ) (r s : Result (Option ℕ) Failure)
    → r ≡ selected_of cat source k target schema → s ≡ selected_of cat source k target schema → r ≡ s
select-unique cat source k target schema r s = equal

module _ (cat source : List ℕ) (k : ℕ) (target : List ℕ) (to header : ℕ) (body marks room : List ℕ) where
  abbrev planned : Result (Unit {0}) Failure
  planned = planned_of cat source k target to header body marks (length room)

  abbrev laid : List ℕ
  laid = after_plan cat source k target to header body marks room

  pub plan-unique : (r s : Result (Unit {0}) Failure) (d e : List ℕ) → r ≡ planned → d ≡ laid → s ≡ planned → e ≡ laid → (r ≡ s) × (d ≡ e)
  plan-unique r s d e er ed es ee = (equal er es, equal ed ee)

-- ---- the upgrade: the answer, and the target as it is left

module _ (promised : Result Upgraded Refusal) (left : List ℕ) where
  upgraded-unique : (r s : Result Upgraded Refusal) (d e : List ℕ) → r ≡ promised → d ≡ left → s ≡ promised → e ≡ left → (r ≡ s) × (d ≡ e)
  upgraded-unique r s d e er ed es ee = (equal er es, equal ed ee)

module _ (slot src : List ℕ) (stated : ℕ) (dst : List ℕ) where
  pub apply-unique : (r s : Result Upgraded Refusal) (d e : List ℕ)
      → r ≡ applied_of slot src stated dst → d ≡ after_apply slot src stated dst
      → s ≡ applied_of slot src stated dst → e ≡ after_apply slot src stated dst → (r ≡ s) × (d ≡ e)
  apply-unique = upgraded-unique (applied_of slot src stated dst) (after_apply slot src stated dst)

module _ (plans unplanned : List ℕ) (rtype src_header dst_header : ℕ) (src : List ℕ) (stated : ℕ) (dst : List ℕ) where
  abbrev answered : Result Upgraded Refusal
  answered = upgraded_of plans unplanned rtype src_header dst_header src stated dst

  abbrev kept : List ℕ
  kept = after_upgrade plans unplanned rtype src_header dst_header src stated dst

  pub upgrade-unique : (r s : Result Upgraded Refusal) (d e : List ℕ) → r ≡ answered → d ≡ kept → s ≡ answered → e ≡ kept → (r ≡ s) × (d ≡ e)
  upgrade-unique = upgraded-unique answered kept

-- ---- plan text

pub check-plan-unique : (plan : List ℕ) (r s : Result (Unit {0}) Refusal) → r ≡ checked_of plan → s ≡ checked_of plan → r ≡ s
check-plan-unique plan r s = equal

pub write-plan-unique : (plan text : List ℕ) (r s : Result ℕ Refusal) (a b : List ℕ)
    → r ≡ written_of plan text → a ≡ after_writing plan text → s ≡ written_of plan text → b ≡ after_writing plan text → (r ≡ s) × (a ≡ b)
write-plan-unique plan text r s a b er ea es eb = (equal er es, equal ea eb)

pub read-plan-unique : (text plan : List ℕ) (r s : Result (Unit {0}) Refusal) (a b : List ℕ) → Reads text plan r a → Reads text plan s b → (r ≡ s) × (a ≡ b)
read-plan-unique text plan r s a b p q =
    let x = reads-one text plan r a p in
    let y = reads-one text plan s b q in
    (equal x.0 y.0, equal x.1 y.1)
