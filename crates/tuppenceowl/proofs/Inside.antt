-- A record that has a hash is one of the layout's; an error that a `?` passes on as it is. Assumes nothing.
use mathlib.Core.Path.{◌≡◌, refl, ap}
use mathlib.Core.Bool.{Bool, true, false, cond}
use mathlib.Core.List.{List}
use Prim.Native.Nat.{ℕ, ◌<◌}
use native.Mathlib.Omega.{arith}
use borrow.Author.Tests.{ltb-true}
use lib.Dec.{ltb}
use Rattle.std.specs.Prelude.{Result, Ok, Err}
use Rattle.std.specs.Result.{IsErrAnd}
use Rattle.limits.specs.declared.refusal.Refusal.{Refusal}
use Rattle.limits.specs.declared.refusal.Failure.{Failure}
use Rattle.limits.specs.declared.refusal.Failure.TheVariants.{NoRecord}
use Rattle.layout.specs.Layout.{count_of}
use Rattle.field.specs.declared.Holder.TheVariants.{Record}
use Rattle.admission_rules.specs.Admission.{admit_of, or_refused, failed}
use Rattle.hash_rules.specs.declared.Walked.{Walked}
use Rattle.tuppenceowl.specs.Answers.{summed_of}

chosen : (a : Result (Unit {0}) Refusal) (p : Bool) (s : Result Walked Failure) (walked : Walked) → Ok walked ≡ or_refused failed a (cond p s (Err NoRecord)) → p ≡ true
chosen (Ok done) true s walked e = refl
chosen (Ok done) false s walked e = absurd (let z : ◌≡◌ {A = ℕ} 0 1 = cc in omega arith)
chosen (Err refusal) p s walked e = absurd (let z : ◌≡◌ {A = ℕ} 0 1 = cc in omega arith)

pub hash-inside : (cat l : List ℕ) (k budget : ℕ) (walked : Walked) → Ok walked ≡ summed_of cat l k budget → k < count_of Record l
unfolding summed_of
hash-inside cat l k budget walked e = ltb-true k (count_of Record l) (chosen (admit_of cat l) (ltb k (count_of Record l)) _ walked e)

pub passed_on : {A E : Type 0} (r : Result A E) (error : E) → IsErrAnd r (λ e. e ≡ error) → r ≡ Err error
passed_on (Ok x) error e = absurd e
passed_on (Err failure) error e = ap Err e
