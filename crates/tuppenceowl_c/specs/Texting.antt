-- What hosts are told of plan text: a status, and the text's length.
use Rattle.std.specs.Prelude.{ℕ, ◌≡◌, List, Result, Ok, Err}
use Rattle.limits.specs.Refusal.{number_of}
use Rattle.limits.specs.declared.refusal.Refusal.{Refusal}
use Rattle.plan_read.specs.Reading.{Reads}

abbrev pub written_status : Result ℕ Refusal → ℕ
written_status (Ok n) = 0
written_status (Err refusal) = number_of refusal

abbrev pub length_or : Result ℕ Refusal → ℕ → ℕ
length_or (Ok n) found = n
length_or (Err refusal) found = found

abbrev pub read_status : Result (Unit {0}) Refusal → ℕ
read_status (Ok done) = 0
read_status (Err refusal) = number_of refusal

-- a status that some answer of the reader's promise has
pub record ReadsAs (text plan : List ℕ) (status : ℕ) (after : List ℕ) : Type 0 where
  pub answer : Result (Unit {0}) Refusal
  pub told : status ≡ read_status answer
  pub kept : Reads text plan answer after
