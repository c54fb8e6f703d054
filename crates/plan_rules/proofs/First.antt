-- The first source field of an id decides alone, whatever it is and whatever follows. Assumes nothing.
use mathlib.Core.Path.{◌≡◌, refl, ap}
use mathlib.Core.Bool.{Bool, true, false, cond}
use mathlib.Core.List.{List, [], ◌∷◌}
use Prim.Native.Nat.{ℕ}
use Rattle.std.specs.Prelude.{Some, None}
use Rattle.lent.specs.Scan.{first}
use Rattle.field.specs.Field.{counts}
use Rattle.field.specs.declared.FieldDef.{FieldDef}
use Rattle.plan_rules.specs.Rule.{Want, same_id, when, step_for, step_of}

module _ (cat : List ℕ) (w : Want) (have : FieldDef) (haves : List FieldDef) where
  pub decides : same_id w.def have ≡ true → step_of cat (have ∷ haves) w ≡ when (counts cat w.def) (step_for cat have w.def w.marked)
  unfolding step_of first
  decides e = rw e

  pub passed : same_id w.def have ≡ false → step_of cat (have ∷ haves) w ≡ step_of cat haves w
  unfolding step_of first
  passed e = rw e

-- what the first gives, where the first itself is known
module _ {A B : Type 0} (test : A → Bool) (give : A → B) (none : B) where
  pub first-missing : (xs : List A) → first test (λ x. Some x) None xs ≡ None → first test give none xs ≡ none
  unfolding first
  first-missing [] e = refl
  first-missing (x ∷ xs) e = go (test x) (first-missing xs) e where
    go : (p : Bool) → (first test (λ x. Some x) None xs ≡ None → first test give none xs ≡ none)
        → cond p (Some x) (first test (λ x. Some x) None xs) ≡ None → cond p (give x) (first test give none xs) ≡ none
    go true ih z = cc
    go false ih z = ih z

  pub first-found : (y : A) (xs : List A) → first test (λ x. Some x) None xs ≡ Some y → first test give none xs ≡ give y
  unfolding first
  first-found y [] e = cc
  first-found y (x ∷ xs) e = go (test x) (first-found y xs) e where
    go : (p : Bool) → (first test (λ x. Some x) None xs ≡ Some y → first test give none xs ≡ give y)
        → cond p (Some x) (first test (λ x. Some x) None xs) ≡ Some y → cond p (give x) (first test give none xs) ≡ give y
    go true ih z = let same : x ≡ y = cc in ap give same
    go false ih z = ih z
