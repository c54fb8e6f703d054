-- The hash of a table: the fingerprint of the bytes of the walk, with the visits.
use Rattle.std.specs.Prelude.{ℕ, List, [], ◌++◌, Result, Ok, Err}
use Rattle.crc64.specs.Avro.{fingerprint}
use Rattle.field.specs.declared.FieldDef.{FieldDef}
use Rattle.hash_rules.specs.Walk.{Walked, Went, Stopped, walk_record}
use Rattle.hash_rules.specs.declared.Walked.{Walked as WalkedTo}
use Rattle.limits.specs.declared.refusal.Refusal.{Refusal}

abbrev pub summed : Walked (List ℕ) → Result WalkedTo Refusal
summed (Went bytes count) = Ok (record { fp = fingerprint bytes; visits = count })
summed (Stopped refusal) = Err refusal

unfoldable pub hash_of : List ℕ → List ℕ → ℕ → List FieldDef → Result WalkedTo Refusal
hash_of cat l budget fs = summed (walk_record ◌++◌ cat l budget fs [])
