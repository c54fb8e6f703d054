-- Two outcomes that meet an export's promise are equal, the status and everything that is lent and changed. Assumes nothing.
-- Stated of whatever the public call answers (`promised`), so that exports which answer alike share a law.
use mathlib.Core.Path.{◌≡◌, sym, ap, ◌∙◌}
use mathlib.Core.List.{List}
use Prim.Native.Nat.{ℕ}
use mathlib.Core.Bool.{Bool}
use Rattle.std.specs.Prelude.{Option, Result}
use Rattle.limits.specs.declared.refusal.Refusal.{Refusal}
use Rattle.limits.specs.declared.refusal.Failure.{Failure}
use Rattle.field.specs.declared.FieldDef.{FieldDef}
use Rattle.compare.specs.declared.answer.Verdict.{Verdict}
use Rattle.hash_rules.specs.declared.Walked.{Walked}
use Rattle.admission_rules.specs.Admission.{status_of}
use Rattle.cursor_rules.specs.declared.FieldCursor.{FieldCursor}
use Rattle.dispatch.specs.declared.Upgraded.{Upgraded}
use Rattle.tuppenceowl.proofs.Unique.{read-plan-unique}
use Rattle.tuppenceowl_c.specs.Admitting.{sized_status, bytes_or, windowed_status, start_or, end_or}
use Rattle.tuppenceowl_c.specs.Building.{state_out, Hosted, hosted}
use Rattle.tuppenceowl_c.specs.Comparing.{judged_status}
use Rattle.tuppenceowl_c.specs.Finding.{found_status, field_or}
use Rattle.tuppenceowl_c.specs.Hashing.{summed_status, hash_or, visits_or, booted_status}
use Rattle.tuppenceowl_c.specs.Planning.{planned_status, selected_status, record_or}
use Rattle.tuppenceowl_c.specs.Texting.{written_status, length_or, read_status, ReadsAs}
use Rattle.tuppenceowl_c.specs.Upgrading.{upgraded_status, rtype_or, size_or}

equal : {A : Type 0} {x r s : A} → r ≡ x → s ≡ x → r ≡ s
equal p q = p ∙ sym q

-- ---- a status alone; `owl_sum` promises what `sum` does

-- owl_check_catalogue, owl_admit, owl_check_plan
pub owl-admitted-unique : (promised : Result (Unit {0}) Refusal) (r s : ℕ) → r ≡ status_of promised → s ≡ status_of promised → r ≡ s
owl-admitted-unique promised r s = equal

-- owl_verdict, owl_verdict_of
pub owl-judged-unique : (promised : Result Verdict Failure) (r s : ℕ) → r ≡ judged_status promised → s ≡ judged_status promised → r ≡ s
owl-judged-unique promised r s = equal

pub owl-boot-check-unique : (promised : Result Bool Failure) (r s : ℕ) → r ≡ booted_status promised → s ≡ booted_status promised → r ≡ s
owl-boot-check-unique promised r s = equal

-- ---- a status and lent numbers

pub owl-record-size-unique : (promised : Result ℕ Failure) (size r s n m : ℕ)
    → r ≡ sized_status promised → n ≡ bytes_or promised size → s ≡ sized_status promised → m ≡ bytes_or promised size → (r ≡ s) × (n ≡ m)
owl-record-size-unique promised size r s n m er en es em = (equal er es, equal en em)

pub owl-window-unique : (promised : Option (ℕ × ℕ)) (start end r s a b e f : ℕ)
    → r ≡ windowed_status promised → a ≡ start_or promised start → e ≡ end_or promised end
    → s ≡ windowed_status promised → b ≡ start_or promised start → f ≡ end_or promised end → (r ≡ s) × (a ≡ b) × (e ≡ f)
owl-window-unique promised start end r s a b e f er ea ee es eb ef = (equal er es, equal ea eb, equal ee ef)

-- owl_layout_hash, owl_layout_hash_within
pub owl-summed-unique : (promised : Result Walked Failure) (hash visits r s h i v w : ℕ)
    → r ≡ summed_status promised → h ≡ hash_or promised hash → v ≡ visits_or promised visits
    → s ≡ summed_status promised → i ≡ hash_or promised hash → w ≡ visits_or promised visits → (r ≡ s) × (h ≡ i) × (v ≡ w)
owl-summed-unique promised hash visits r s h i v w er eh ev es ei ew = (equal er es, equal eh ei, equal ev ew)

pub owl-select-unique : (promised : Result (Option ℕ) Failure) (number r s n m : ℕ)
    → r ≡ selected_status promised → n ≡ record_or promised number → s ≡ selected_status promised → m ≡ record_or promised number → (r ≡ s) × (n ≡ m)
owl-select-unique promised number r s n m er en es em = (equal er es, equal en em)

-- ---- a status, lent numbers and lent bytes

-- owl_field_of, owl_field_by_id, owl_field_by_name
pub owl-found-unique : (promised : Result (Option FieldDef) Refusal) (field : List ℕ) (r s : ℕ) (f g : List ℕ)
    → r ≡ found_status promised → f ≡ field_or promised field → s ≡ found_status promised → g ≡ field_or promised field → (r ≡ s) × (f ≡ g)
owl-found-unique promised field r s f g er ef es eg = (equal er es, equal ef eg)

pub owl-plan-unique : (promised : Result (Unit {0}) Failure) (left : List ℕ) (r s : ℕ) (d e : List ℕ)
    → r ≡ planned_status promised → d ≡ left → s ≡ planned_status promised → e ≡ left → (r ≡ s) × (d ≡ e)
owl-plan-unique promised left r s d e er ed es ee = (equal er es, equal ed ee)

-- owl_apply, owl_upgrade
pub owl-upgraded-unique : (promised : Result Upgraded Refusal) (left : List ℕ) (became size r s b a m n : ℕ) (d e : List ℕ)
    → r ≡ upgraded_status promised → b ≡ rtype_or promised became → m ≡ size_or promised size → d ≡ left
    → s ≡ upgraded_status promised → a ≡ rtype_or promised became → n ≡ size_or promised size → e ≡ left
    → (r ≡ s) × (b ≡ a) × (m ≡ n) × (d ≡ e)
owl-upgraded-unique promised left became size r s b a m n d e er eb em ed es ea en ee = (equal er es, equal eb ea, equal em en, equal ed ee)

pub owl-write-plan-unique : (promised : Result ℕ Refusal) (left : List ℕ) (length r s n m : ℕ) (a b : List ℕ)
    → r ≡ written_status promised → a ≡ left → n ≡ length_or promised length
    → s ≡ written_status promised → b ≡ left → m ≡ length_or promised length → (r ≡ s) × (a ≡ b) × (n ≡ m)
owl-write-plan-unique promised left length r s n m a b er ea en es eb em = (equal er es, equal ea eb, equal en em)

pub owl-read-plan-unique : (text plan : List ℕ) (r s : ℕ) (a b : List ℕ) → ReadsAs text plan r a → ReadsAs text plan s b → (r ≡ s) × (a ≡ b)
owl-read-plan-unique text plan r s a b p q =
    let z = read-plan-unique text plan p.answer q.answer a b p.kept q.kept in
    (p.told ∙ ap read_status z.0 ∙ sym q.told, z.1)

-- ---- the field cursor: `owl_cursor_empty`, and one law for the calls, whose promise is one equation

pub owl-cursor-empty-unique : (promised : FieldCursor) (s t : List ℕ) → s ≡ state_out promised → t ≡ state_out promised → s ≡ t
owl-cursor-empty-unique promised s t = equal

pub owl-cursor-unique : (promised : Hosted) (r s : ℕ) (a t n b u m : List ℕ)
    → hosted r a t n ≡ promised → hosted s b u m ≡ promised → (r ≡ s) × (a ≡ b) × (t ≡ u) × (n ≡ m)
owl-cursor-unique promised r s a t n b u m p q =
    let z : hosted r a t n ≡ hosted s b u m = equal p q in
    (ap (λ (h : Hosted). h.status) z, ap (λ (h : Hosted). h.state) z, ap (λ (h : Hosted). h.table) z, ap (λ (h : Hosted). h.names) z)
