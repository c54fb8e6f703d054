-- Neighbours that join, and steps joined onto those that are done. Assumes nothing.
use mathlib.Core.Path.{◌≡◌, refl, ap}
use mathlib.Core.Bool.{true, false, ◌&&◌}
use mathlib.Core.List.{List, [], ◌∷◌, ◌++◌}
use Prim.Native.Nat.{ℕ, ◌+◌, ◌≤◌}
use native.Mathlib.Omega.{arith}
use borrow.Author.Tests.{leb-true, eqb-true}
use lib.Dec.{leb, eqb}
use Rattle.lent.proofs.Scan.{both}
use Rattle.step.specs.Step.{copy}
use Rattle.step.specs.declared.Step.{Step}
use Rattle.coalesce.specs.Joins.{in_bases, adjacent, joins, joined, join_from, join_all}

-- two copies that join end inside the source's base
pub sum_inside : (s d n s' d' m sb tb : ℕ)
    → ((in_bases sb tb (copy s d n) && in_bases sb tb (copy s' d' m)) && adjacent (copy s d n) (copy s' d' m)) ≡ true → n + m ≤ sb
sum_inside s d n s' d' m sb tb e =
    let p = both (in_bases sb tb (copy s d n) && in_bases sb tb (copy s' d' m)) (adjacent (copy s d n) (copy s' d' m)) e in
    let q = both (in_bases sb tb (copy s d n)) (in_bases sb tb (copy s' d' m)) p.0 in
    let next = eqb-true (s + n) s' (both (eqb (s + n) s') (eqb (d + n) d') p.1).0 in
    let low = leb-true (s' + m) sb (both (leb (s' + m) sb) (leb (d' + m) tb) q.1).0 in
    omega arith

module _ (sb tb : ℕ) where
  -- the steps left, joined onto those done, whose last may still grow
  unfoldable pub join_onto : List Step → List Step → List Step
  join_onto [] ss = join_all sb tb ss
  join_onto (a ∷ []) ss = join_from sb tb a ss
  join_onto (a ∷ b ∷ done) ss = a ∷ join_onto (b ∷ done) ss

  pub onto-first : (s : Step) (ss : List Step) → join_onto [] (s ∷ ss) ≡ join_onto (s ∷ []) ss
  unfolding join_onto join_all
  onto-first s ss = refl

  pub onto-end : (done : List Step) → join_onto done [] ≡ done
  unfolding join_onto join_all join_from
  onto-end [] = refl
  onto-end (a ∷ []) = refl
  onto-end (a ∷ b ∷ done) = ap (λ (l : List Step). a ∷ l) (onto-end (b ∷ done))

  -- the last of those done and the next join
  pub onto-one : (done : List Step) (a s : Step) (ss : List Step) → joins sb tb a s ≡ true
      → join_onto (done ++ a ∷ []) (s ∷ ss) ≡ join_onto (done ++ joined a s ∷ []) ss
  unfolding join_onto join_from
  onto-one [] a s ss e = rw e
  onto-one (d ∷ []) a s ss e = rw e
  onto-one (d ∷ g ∷ done) a s ss e = ap (λ (l : List Step). d ∷ l) (onto-one (g ∷ done) a s ss e)

  -- they do not
  pub onto-two : (done : List Step) (a s : Step) (ss : List Step) → joins sb tb a s ≡ false
      → join_onto (done ++ a ∷ []) (s ∷ ss) ≡ join_onto ((done ++ a ∷ []) ++ s ∷ []) ss
  unfolding join_onto join_from
  onto-two [] a s ss e = rw e
  onto-two (d ∷ []) a s ss e = rw e
  onto-two (d ∷ g ∷ done) a s ss e = ap (λ (l : List Step). d ∷ l) (onto-two (g ∷ done) a s ss e)
