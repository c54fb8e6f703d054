-- A turn of the planner's loop: the steps left, joined onto those done, give what the whole does. Assumes nothing.
use mathlib.Core.Path.{◌≡◌, refl, sym, ap, ◌∙◌}
use mathlib.Core.Bool.{Bool, true, false, cond}
use mathlib.Core.List.{List, [], ◌∷◌, ◌++◌, map}
use Prim.Native.Nat.{ℕ, suc, ◌+◌, ◌-◌, ◌≤◌, ◌<◌}
use native.Mathlib.Numerals.{add-one}
use native.Mathlib.Omega.{arith}
use lib.ListN.{length, get_or, take, drop, set, drop_of_length-le}
use lib.Seq.{take-suc, take-suc-set, drop-cons}
use Rattle.std.specs.Prelude.{Some, None}
use Rattle.field.specs.declared.FieldDef.{FieldDef}
use Rattle.step.specs.declared.Step.{Step}
use Rattle.plan_rules.specs.Rule.{Want, step_of}
use Rattle.coalesce.specs.Joins.{joins, joined}
use Rattle.steps.specs.Steps.{before, steps_of}
use Rattle.coalesce.proofs.Onto.{join_onto, onto-first, onto-end, onto-one, onto-two}

module _ (cat : List ℕ) (haves : List FieldDef) (read : ℕ → Want) (order : List ℕ) where
  -- the steps of the places from k on
  abbrev pub rest : ℕ → List Step
  rest k = steps_of cat haves (map read (drop k order))

  module _ (sb tb k count : ℕ) (steps all : List Step) (so : join_onto sb tb (take count steps) (rest k) ≡ all) where
    pub no_more : length order ≤ k → take count steps ≡ all
    unfolding steps_of
    no_more h = sym (onto-end sb tb (take count steps)) ∙ rw (drop_of_length-le order h) at so

    module _ (more : k < length order) where
      turned : rest k ≡ before (step_of cat haves (read (get_or order k 0))) (rest (k + 1))
      unfolding steps_of
      turned = rw (drop-cons order k 0 more, add-one k)

      pub has-default : step_of cat haves (read (get_or order k 0)) ≡ None → join_onto sb tb (take count steps) (rest (k + 1)) ≡ all
      has-default e = rw (turned, e) at so

      module _ (s : Step) (e : step_of cat haves (read (get_or order k 0)) ≡ Some s) where
        next : join_onto sb tb (take count steps) (s ∷ rest (k + 1)) ≡ all
        next = rw (turned, e) at so

        pub first_step : count ≡ 0 → 0 < length steps → join_onto sb tb (take (count + 1) (set steps count s)) (rest (k + 1)) ≡ all
        first_step z room =
            let d : take 1 (set steps 0 s) ≡ s ∷ [] = take-suc-set steps 0 s room in
            rw (z, d) (sym (onto-first sb tb s (rest (k + 1))) ∙ rw z at next)

        module _ (d : Step) (some : 0 < count) (room : count ≤ length steps) where
          up : suc (count - 1) ≡ count
          up = omega arith

          ended : take count steps ≡ take (count - 1) steps ++ get_or steps (count - 1) d ∷ []
          ended = ap (λ (i : ℕ). take i steps) (sym up) ∙ take-suc steps (count - 1) d (omega arith)

          pub joins-last : joins sb tb (get_or steps (count - 1) d) s ≡ true → (b : Step) → joined (get_or steps (count - 1) d) s ≡ b
              → join_onto sb tb (take count (set steps (count - 1) b)) (rest (k + 1)) ≡ all
          joins-last j b eb =
              let put : take count (set steps (count - 1) b) ≡ take (count - 1) steps ++ b ∷ [] =
              ap (λ (i : ℕ). take i (set steps (count - 1) b)) (sym up) ∙ take-suc-set steps (count - 1) b (omega arith) in
              rw (put, ← eb) (sym (onto-one sb tb (take (count - 1) steps) (get_or steps (count - 1) d) s (rest (k + 1)) j) ∙ rw ended at next)

          pub stands-alone : joins sb tb (get_or steps (count - 1) d) s ≡ false → count < length steps
              → join_onto sb tb (take (count + 1) (set steps count s)) (rest (k + 1)) ≡ all
          stands-alone j h =
              let put : take (count + 1) (set steps count s) ≡ take count steps ++ s ∷ [] = rw (add-one count) (take-suc-set steps count s h) in
              rw (put, ended) (sym (onto-two sb tb (take (count - 1) steps) (get_or steps (count - 1) d) s (rest (k + 1)) j) ∙ rw ended at next)

-- what an answer of the join says
pub one-means : (p : Bool) (x y : Step) → cond p (Some x) None ≡ Some y → (p ≡ true) × (x ≡ y)
one-means true x y e = (refl, cc)
one-means false x y e = cc

pub two-means : (p : Bool) (x : Step) → cond p (Some x) None ≡ None → p ≡ false
two-means true x e = cc
two-means false x e = refl
