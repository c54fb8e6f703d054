-- What hosts are told of an upgrade: a status, the target's rtype and the record's size; a refusal leaves the two numbers.
use Rattle.std.specs.Prelude.{ℕ, Result, Ok, Err}
use Rattle.limits.specs.Refusal.{number_of}
use Rattle.limits.specs.declared.refusal.Refusal.{Refusal}
use Rattle.dispatch.specs.declared.Upgraded.{Upgraded}

abbrev pub upgraded_status : Result Upgraded Refusal → ℕ
upgraded_status (Ok upgraded) = 0
upgraded_status (Err refusal) = number_of refusal

abbrev pub rtype_or : Result Upgraded Refusal → ℕ → ℕ
rtype_or (Ok upgraded) old = upgraded.rtype
rtype_or (Err refusal) old = old

abbrev pub size_or : Result Upgraded Refusal → ℕ → ℕ
size_or (Ok upgraded) old = upgraded.size
size_or (Err refusal) old = old
