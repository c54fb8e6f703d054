-- What hosts are told of a record's size and of a window: a status, and what the lent numbers become.
use Rattle.std.specs.Prelude.{ℕ, Option, Some, None, Result, Ok, Err}
use Rattle.limits.specs.declared.refusal.Failure.{Failure}
use Rattle.tuppenceowl_c.specs.Status.{none, failure_status}

abbrev pub sized_status : Result ℕ Failure → ℕ
sized_status (Ok n) = 0
sized_status (Err failure) = failure_status failure

abbrev pub bytes_or : Result ℕ Failure → ℕ → ℕ
bytes_or (Ok n) found = n
bytes_or (Err failure) found = found

abbrev pub windowed_status : Option (ℕ × ℕ) → ℕ
windowed_status (Some ends) = 0
windowed_status None = none

abbrev pub start_or : Option (ℕ × ℕ) → ℕ → ℕ
start_or (Some ends) found = ends.0
start_or None found = found

abbrev pub end_or : Option (ℕ × ℕ) → ℕ → ℕ
end_or (Some ends) found = ends.1
end_or None found = found
