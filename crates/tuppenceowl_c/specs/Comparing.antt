-- What hosts are told of a verdict.
use Rattle.std.specs.Prelude.{ℕ, Result, Ok, Err}
use Rattle.limits.specs.declared.refusal.Failure.{Failure}
use Rattle.compare.specs.declared.answer.Verdict.{Verdict}
use Rattle.compare.specs.declared.answer.Verdict.TheVariants.{Compiled, Dynamic}
use Rattle.tuppenceowl_c.specs.Status.{other, failure_status}

abbrev pub verdict_status : Verdict → ℕ
verdict_status Compiled = 0
verdict_status Dynamic = other

abbrev pub judged_status : Result Verdict Failure → ℕ
judged_status (Ok verdict) = verdict_status verdict
judged_status (Err failure) = failure_status failure
