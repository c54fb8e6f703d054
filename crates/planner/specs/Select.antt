-- The selection: which target record a source record is planned to.
use Rattle.std.specs.Prelude.{Option, Some, None, Result, Ok, Err, ℕ, ◌-◌, ◌/◌, Bool, cond, List, ltb, eqb}
use Rattle.lent.specs.Scan.{first, alike}
use Rattle.layout.specs.Layout.{RecordLayout, record_at, record_of, heads, count_of}
use Rattle.layout.specs.Find.{first_of}
use Rattle.field.specs.declared.Holder.TheVariants.{Record}
use Rattle.limits.specs.declared.refusal.Failure.{Failure}
use Rattle.limits.specs.declared.refusal.Failure.TheVariants.{NoRecord}
use Rattle.admission_rules.specs.Admission.{admit_both, or_refused, failed}

abbrev pub of_schema : List ℕ → ℕ → ℕ → Bool
of_schema l schema h = eqb (record_at l h).schema schema

-- a record counts only if it has the name
abbrev pub if_named : List ℕ → List ℕ → Option ℕ → Option ℕ
if_named l name (Some h) = cond (alike eqb (record_at l h).name name) (Some h) None
if_named l name None = None

abbrev pub or_else : Option ℕ → Option ℕ → Option ℕ
or_else (Some h) other = Some h
or_else None other = other

-- the first record of the wanted schema, if one is wanted and it has the source's name; else the first of the source's rtype
unfoldable pub chosen : List ℕ → RecordLayout → Option ℕ → Option ℕ
chosen target have None = first_of target have.rtype
chosen target have (Some schema) =
    or_else (if_named target have.name (first (of_schema target schema) Some None (heads Record target))) (first_of target have.rtype)

-- the number of the record whose head stands there
abbrev pub as_selected : Option ℕ → Option ℕ
as_selected (Some h) = Some ((h - 8) / 72)
as_selected None = None

unfoldable pub selected_of : List ℕ → List ℕ → ℕ → List ℕ → Option ℕ → Result (Option ℕ) Failure
selected_of cat source k target schema =
    or_refused failed (admit_both cat source target)
    (cond (ltb k (count_of Record source)) (Ok (as_selected (chosen target (record_of source k) schema))) (Err NoRecord))
