-- What hosts are told of a layout hash and of the boot check: a status, and what the lent numbers become.
use Rattle.std.specs.Prelude.{ℕ, Bool, true, false, Result, Ok, Err}
use Rattle.limits.specs.declared.refusal.Failure.{Failure}
use Rattle.hash_rules.specs.declared.Walked.{Walked}
use Rattle.tuppenceowl_c.specs.Status.{other, failure_status}

abbrev pub summed_status : Result Walked Failure → ℕ
summed_status (Ok walked) = 0
summed_status (Err failure) = failure_status failure

abbrev pub hash_or : Result Walked Failure → ℕ → ℕ
hash_or (Ok walked) found = walked.fp
hash_or (Err failure) found = found

abbrev pub visits_or : Result Walked Failure → ℕ → ℕ
visits_or (Ok walked) found = walked.visits
visits_or (Err failure) found = found

abbrev pub booted_status : Result Bool Failure → ℕ
booted_status (Ok true) = 0
booted_status (Ok false) = other
booted_status (Err failure) = failure_status failure
