-- What the parts of the code compute: the same walk, feeding a running sum.
use Rattle.std.specs.Prelude.{ℕ, ◌+◌, ◌<◌, cond, List, ltb, Result, Ok, Err}
use Rattle.lent.specs.Bytes.{bytes_of}
use Rattle.crc64.specs.Sum.{bytes_step}
use Rattle.field.specs.declared.FieldDef.{FieldDef}
use Rattle.limits.specs.declared.refusal.Refusal.{Refusal}
use Rattle.limits.specs.declared.refusal.Refusal.TheVariants.{OverBudget}
use Rattle.layout.specs.Layout.{head_of, struct_of}
use Rattle.feed.specs.Feed.{field_bytes}
use Rattle.hash_rules.specs.Walk.{Walked, Went, Stopped, names_struct}
use Rattle.hash_rules.specs.declared.Walked.{Walked as WalkedTo}
use Rattle.hash_rules.specs.declared.Visit.{Visit}
use Rattle.hash_rules.specs.declared.Visit.TheVariants.{On, Enter}

-- a walk that feeds a sum, as an answer
abbrev pub told : Walked ℕ → Result WalkedTo Refusal
told (Went sum count) = Ok (record { fp = sum; visits = count })
told (Stopped refusal) = Err refusal

unfoldable pub visit_of : List ℕ → List ℕ → ℕ → FieldDef → ℕ → ℕ → Result Visit Refusal
visit_of cat l budget f sum count =
    cond (ltb count budget)
    (cond (names_struct cat l f)
    (Ok (Enter (record { fp = bytes_step (bytes_step sum (field_bytes f)) (bytes_of 2 (struct_of l f).size); visits = count + 1 }) (head_of l f)))
    (Ok (On (record { fp = bytes_step sum (field_bytes f); visits = count + 1 }))))
    (Err OverBudget)

-- the head that is entered lies near
abbrev pub Near : Result Visit Refusal → Type 0
Near (Ok (On walked)) = Unit {0}
Near (Ok (Enter walked head)) = head < 7864320
Near (Err refusal) = Unit {0}
