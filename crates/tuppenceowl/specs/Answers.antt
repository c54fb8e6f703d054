-- What each public call answers, of any bytes and numbers.
use Rattle.std.specs.Prelude.{Option, Some, None, Result, Ok, Err, ℕ, ◌+◌, ◌*◌, ◌/◌, ◌%◌, Bool, cond, ◌&&◌, List, leb, ltb, eqb, length}
use Rattle.limits.specs.Limits.{max_fields, default_budget}
use Rattle.limits.specs.declared.refusal.Refusal.TheVariants.{BadShape, ReservedByte}
use Rattle.lent.specs.Bytes.{has_window}
use Rattle.lent.specs.Scan.{every}
use Rattle.field.specs.Field.{field_at, fields_of}
use Rattle.table_rules.specs.Table.{reserved_zero}
use Rattle.layout.specs.Layout.{count_of, record_of}
use Rattle.record_size.specs.Size.{record_size}
use Rattle.field.specs.declared.Holder.TheVariants.{Record}
use Rattle.limits.specs.declared.refusal.Refusal.{Refusal}
use Rattle.limits.specs.declared.refusal.Failure.{Failure}
use Rattle.limits.specs.declared.refusal.Failure.TheVariants.{NoRecord}
use Rattle.field.specs.declared.FieldDef.{FieldDef}
use Rattle.admission_rules.specs.Admission.{admit_of, or_refused, failed}
use Rattle.hash_rules.specs.declared.Walked.{Walked}
use Rattle.hash_rules.specs.Hash.{hash_of}

-- the size of record k of a layout, counted from 0
unfoldable pub sized_of : List ℕ → List ℕ → ℕ → Result ℕ Failure
sized_of cat l k =
    or_refused failed (admit_of cat l) (cond (ltb k (count_of Record l)) (Ok (record_size (record_of l k))) (Err NoRecord))

-- the hash of record k, with the visits that it took
abbrev pub as_summed : Result Walked Refusal → Result Walked Failure
as_summed (Ok walked) = Ok walked
as_summed (Err refusal) = failed refusal

unfoldable pub summed_of : List ℕ → List ℕ → ℕ → ℕ → Result Walked Failure
summed_of cat l k budget =
    or_refused failed (admit_of cat l)
    (cond (ltb k (count_of Record l)) (as_summed (hash_of cat l budget (fields_of (record_of l k).table))) (Err NoRecord))

-- is it the hash that record k stores?
abbrev pub as_booted : ℕ → Result Walked Failure → Result Bool Failure
as_booted stored (Ok walked) = Ok (eqb walked.fp stored)
as_booted stored (Err failure) = Err failure

abbrev pub booted_of : List ℕ → List ℕ → ℕ → Result Bool Failure
booted_of cat l k = as_booted (record_of l k).hash (summed_of cat l k default_budget)

-- where a window starts and ends, if it lies inside
abbrev pub windowed_of : List ℕ → ℕ → ℕ → Option (ℕ × ℕ)
windowed_of s offset size = cond (has_window s offset size) (Some (offset, offset + size)) None

-- refusal 2 of a table that is lent alone: whole fields, and not too many
abbrev pub alone_ok : List ℕ → Bool
alone_ok t = eqb (length t % 16) 0 && leb (length t) (16 * max_fields)

-- field k of such a table, counted from 0: refusals 2 and 3 are tested
unfoldable pub found_of : List ℕ → ℕ → Result (Option FieldDef) Refusal
found_of t k =
    cond (alone_ok t)
    (cond (every reserved_zero (fields_of t)) (cond (ltb k (length t / 16)) (Ok (Some (field_at t (16 * k)))) (Ok None)) (Err ReservedByte))
    (Err BadShape)
