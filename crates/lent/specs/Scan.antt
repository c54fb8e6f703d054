-- What a loop over lent bytes finds: a list of what is read at places that lie evenly, and questions to such a list.
use Rattle.std.specs.Prelude.{ℕ, zero, suc, ◌+◌, max, Bool, true, false, cond, ◌&&◌, ◌||◌, List, [], ◌∷◌}

module _ {A : Type 0} where
  -- what is read at n places, the first at `at`, each `step` after the last
  unfoldable pub gather : (ℕ → A) → ℕ → ℕ → ℕ → List A
  gather read step at zero = []
  gather read step at (suc n) = read at ∷ gather read step (at + step) n

  -- each passes the test
  unfoldable pub every : (A → Bool) → List A → Bool
  every test [] = true
  every test (x ∷ xs) = test x && every test xs

  -- one of them passes it
  unfoldable pub some : (A → Bool) → List A → Bool
  some test [] = false
  some test (x ∷ xs) = test x || some test xs

  -- how many pass it
  unfoldable pub tally : (A → Bool) → List A → ℕ
  tally test [] = 0
  tally test (x ∷ xs) = cond (test x) 1 0 + tally test xs

  -- the largest number that one of them has, 0 where there is none
  unfoldable pub highest : (A → ℕ) → List A → ℕ
  highest number [] = 0
  highest number (x ∷ xs) = max (number x) (highest number xs)

module _ {A B : Type 0} where
  -- what the first that passes the test gives, and what there is where none passes
  unfoldable pub first : (A → Bool) → (A → B) → B → List A → B
  first test give none [] = none
  first test give none (x ∷ xs) = cond (test x) (give x) (first test give none xs)

  -- what the last gives
  unfoldable pub last : (A → Bool) → (A → B) → B → List A → B
  last test give none [] = none
  last test give none (x ∷ xs) = last test give (cond (test x) (give x) none) xs

  -- as many of the one as of the other, and the test passes pair by pair
  unfoldable pub alike : (A → B → Bool) → List A → List B → Bool
  alike test [] [] = true
  alike test [] (y ∷ ys) = false
  alike test (x ∷ xs) [] = false
  alike test (x ∷ xs) (y ∷ ys) = test x y && alike test xs ys

-- the places themselves
abbrev pub places : ℕ → ℕ → ℕ → List ℕ
places step at n = gather (λ place. place) step at n
