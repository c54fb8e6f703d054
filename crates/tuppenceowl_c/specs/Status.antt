-- What a status says beside 0, an answer, and a refusal's number.
use Rattle.std.specs.Prelude.{ℕ}
use Rattle.limits.specs.Refusal.{number_of}
use Rattle.limits.specs.declared.refusal.Failure.{Failure}
use Rattle.limits.specs.declared.refusal.Failure.TheVariants.{NoRecord, Refused}

-- no such record or field, or not inside
abbrev pub none : ℕ
none = 255

-- the call's other answer: dynamic, unplanned, different
abbrev pub other : ℕ
other = 254

-- why a call on records has no answer
abbrev pub failure_status : Failure → ℕ
failure_status NoRecord = none
failure_status (Refused refusal) = number_of refusal
