-- What the verdict and the lookups answer, of any bytes and numbers.
use Rattle.std.specs.Prelude.{Option, Result, Ok, Err, ℕ, cond, List, ltb}
use Rattle.layout.specs.Layout.{count_of, record_head}
use Rattle.layout.specs.Find.{last_of, at_place}
use Rattle.field.specs.declared.Holder.TheVariants.{Record}
use Rattle.limits.specs.declared.refusal.Refusal.{Refusal}
use Rattle.limits.specs.declared.refusal.Failure.{Failure}
use Rattle.limits.specs.declared.refusal.Failure.TheVariants.{NoRecord}
use Rattle.field.specs.declared.FieldDef.{FieldDef}
use Rattle.compare.specs.declared.answer.Verdict.{Verdict}
use Rattle.admission_rules.specs.Admission.{admit_of, admit_both, or_refused, failed}
use Rattle.compare.specs.Compare.{verdict_of}
use Rattle.index_rules.specs.Index.{by_id, by_name}

-- the verdict on record k of a stream's layout, counted from 0
unfoldable pub judged_of : List ℕ → List ℕ → ℕ → List ℕ → Result Verdict Failure
judged_of cat s k c =
    or_refused failed (admit_both cat s c) (cond (ltb k (count_of Record s)) (Ok (verdict_of cat s (record_head k) c)) (Err NoRecord))

-- the verdict of an rtype: that on the last record of it
unfoldable pub judged_rtype : List ℕ → List ℕ → ℕ → List ℕ → Result Verdict Failure
judged_rtype cat s rtype c =
    or_refused failed (admit_both cat s c) (at_place (last_of s rtype) (Err NoRecord) (λ h. Ok (verdict_of cat s h c)))

unfoldable pub found_by_id : List ℕ → List ℕ → ℕ → ℕ → Result (Option FieldDef) Refusal
found_by_id cat l rtype id = or_refused Err (admit_of cat l) (Ok (by_id cat l rtype id))

unfoldable pub found_by_name : List ℕ → List ℕ → ℕ → List ℕ → Result (Option FieldDef) Refusal
found_by_name cat l rtype name = or_refused Err (admit_of cat l) (Ok (by_name cat l rtype name))
