-- What a chain of iterators answers of the list that it yields, in the words of `Scan`. Assumes nothing.
use Rattle.std.proofs.Common.{◌≡◌, refl, ap, ◌∙◌, Bool, true, false, ◌&&◌, ◌||◌, List, [], ◌∷◌, Option}
use Rattle.std.specs.List.{list_all, list_any, FoldsTo}
use Rattle.std.specs.Option.{MatchOption}
use Rattle.std.specs.Iterator.{YieldsThen}
use Rattle.std.specs.Fn.{Called}
use Rattle.std.proofs.lemmas.Iterator.{YieldsList}
use Rattle.std.proofs.lemmas.Iterator.Search.{all_from_yields_List, any_from_yields_List}
use denote.Param.Members.{Mut}
use Rattle.lent.specs.Scan.{every, some}

module _ {A : Type 0} (test : A → Bool) where
  pub every-is : (xs : List A) → list_all test xs ≡ every test xs
  unfolding every
  every-is [] = refl
  every-is (x ∷ xs) = ap (λ b. test x && b) (every-is xs)

  pub some-is : (xs : List A) → list_any test xs ≡ some test xs
  unfolding some
  some-is [] = refl
  some-is (x ∷ xs) = ap (λ b. test x || b) (some-is xs)

module _ {S A B F : Type 0} {steps : S → Option A → S → Type 0} {v : A → B} {g : Mut F (A × Unit {0}) Bool} {s : S} {items : List B} (test : B → Bool) (u : S) {f : F} {r : Bool} where
  pub every-from_all : (xs : List A) × (o : Option A) × (j : F) × YieldsThen steps s xs o u × FoldsTo (λ p x q. Called g p (x, tt) true q) f xs j × MatchOption o (r ≡ true) (λ x. (r ≡ false) × ((h : F) × Called g j (x, tt) false h))
      → YieldsList steps v s items → ((x : A) (b : Bool) (q : F) → Called g f (x, tt) b q → (q ≡ f) × (b ≡ test (v x))) → r ≡ every test items
  every-from_all d e k = all_from_yields_List test u f r d e k ∙ every-is test items

  pub some-from_any : (xs : List A) × (o : Option A) × (j : F) × YieldsThen steps s xs o u × FoldsTo (λ p x q. Called g p (x, tt) false q) f xs j × MatchOption o (r ≡ false) (λ x. (r ≡ true) × ((h : F) × Called g j (x, tt) true h))
      → YieldsList steps v s items → ((x : A) (b : Bool) (q : F) → Called g f (x, tt) b q → (q ≡ f) × (b ≡ test (v x))) → r ≡ some test items
  some-from_any d e k = any_from_yields_List test u f r d e k ∙ some-is test items
