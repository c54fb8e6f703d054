-- Lists of steps that differ only in how copies which end inside the source base are cut or joined.
use Rattle.std.specs.Prelude.{ℕ, ◌+◌, ◌≤◌, ◌≡◌, List, ◌∷◌, ◌++◌}
use Rattle.step.specs.Step.{copy}
use Rattle.step.specs.declared.Step.{Step}

-- the same; one copy cut in two; joined again; one after the other
pub data Recut (base : ℕ) : List Step → List Step → Type 0 where
  same : {p q : List Step} → p ≡ q → Recut base p q
  cut : {p q : List Step} (a z : List Step) (s d n m : ℕ) → s + (n + m) ≤ base → p ≡ a ++ copy s d (n + m) ∷ z
      → q ≡ a ++ copy s d n ∷ copy (s + n) (d + n) m ∷ z → Recut base p q
  back : {p q : List Step} → Recut base p q → Recut base q p
  then : {p q r : List Step} → Recut base p q → Recut base q r → Recut base p r
