-- What hosts are told of a selection and of a plan: a status, and the selected record's number, which stays as found where none is selected.
use Rattle.std.specs.Prelude.{ℕ, Bool, cond, Option, Some, None, Result, Ok, Err}
use Rattle.limits.specs.declared.refusal.Failure.{Failure}
use Rattle.tuppenceowl_c.specs.Status.{other, failure_status}

-- the schema, where one is wanted
abbrev pub schema_of : Bool → ℕ → Option ℕ
schema_of wanted schema = cond wanted (Some schema) None

abbrev pub selected_status : Result (Option ℕ) Failure → ℕ
selected_status (Ok (Some k)) = 0
selected_status (Ok None) = other
selected_status (Err failure) = failure_status failure

abbrev pub record_or : Result (Option ℕ) Failure → ℕ → ℕ
record_or (Ok (Some k)) old = k
record_or (Ok None) old = old
record_or (Err failure) old = old

abbrev pub planned_status : Result (Unit {0}) Failure → ℕ
planned_status (Ok done) = 0
planned_status (Err failure) = failure_status failure
