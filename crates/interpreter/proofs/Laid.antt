-- The default body laid from behind a first step that covers its start: the steps leave the same. Assumes nothing.
use mathlib.Core.Path.{◌≡◌, refl, sym, ap, ◌∙◌}
use mathlib.Core.Bool.{Bool, true, false, cond, ◌&&◌}
use mathlib.Core.List.{List, [], ◌∷◌}
use Prim.Native.Nat.{ℕ, ◌+◌, ◌-◌, ◌≤◌}
use native.Mathlib.Omega.{arith}
use lib.Dec.{leb, eqb}
use lib.ListN.{length}
use lib.Seq.{sets}
use borrow.Author.Tests.{eqb-true, leb-true}
use Rattle.lent.specs.Bytes.{window}
use Rattle.lent.proofs.Bytes.{window-length}
use Rattle.lent.proofs.Scan.{both}
use Rattle.lent.proofs.Stored.{window-add, sets_then, sets_over, sets-swap}
use Rattle.step.specs.Step.{source_of, takes, target_of, gives, end_of, step_ok, within, steps_ok}
use Rattle.step.specs.declared.Step.{Step}
use Rattle.interpreter.specs.Run.{carried, reaches, run_step, run, covered_to}
use Rattle.interpreter.proofs.Runs.{length-carried}

-- the first of the steps decides where the body is laid from
module _ (src : List ℕ) (h : ℕ) {left others : List Step} (s : Step) (e : left ≡ s ∷ others) where
  pub covers : (eqb (target_of s) h && reaches src s) ≡ true → end_of s ≡ covered_to src h left
  covers z = rw (e, z)

  pub covers-not : (eqb (target_of s) h && reaches src s) ≡ false → h ≡ covered_to src h left
  covers-not z = rw (e, z)

-- which lies in the record
step-ends : (h size : ℕ) (s : Step) (ss : List Step) → steps_ok h size (s ∷ ss) ≡ true → (h ≤ target_of s) × (end_of s ≤ size)
unfolding steps_ok
step-ends h size s ss ok =
    let one = both (step_ok s) (within h size s) (both (step_ok s && within h size s) (steps_ok (end_of s) size ss) ok).0 in
    let ends = both (leb h (target_of s)) (leb (end_of s) size) one.1 in
    (leb-true h (target_of s) ends.0, leb-true (end_of s) size ends.1)

pub covered-inside : (src : List ℕ) (h size : ℕ) (ss : List Step) → h ≤ size → steps_ok h size ss ≡ true → (h ≤ covered_to src h ss) × (covered_to src h ss ≤ size)
covered-inside src h size [] le ok = (omega arith, le)
covered-inside src h size (s ∷ ss) le ok = go (eqb (target_of s) h && reaches src s) where
  e : (h ≤ target_of s) × (end_of s ≤ size)
  e = step-ends h size s ss ok

  go : (p : Bool) → (h ≤ cond p (end_of s) h) × (cond p (end_of s) h ≤ size)
  go true = (omega (arith, e.0), e.1)
  go false = (omega arith, le)

-- a run under which another was laid, or not
under : (d front rest xs : List ℕ) (h k : ℕ) → length front ≡ k → length xs ≡ k → sets (sets d (h + k) rest) h xs ≡ sets (sets (sets d h front) (h + k) rest) h xs
under d front rest xs h k lf lx =
    let z : h + 0 ≡ h = omega arith in
    sets-swap d xs rest h (h + k) (omega arith)
    ∙ ap (λ r. sets r (h + k) rest) (sym (rw z at (sets_over d xs front h 0 (omega arith))))
    ∙ sym (sets-swap (sets d h front) xs rest h (h + k) (omega arith))

module _ (slot src dst : List ℕ) (b h size : ℕ) (room : b + (size - h) ≤ length slot) where
  -- of one step that starts at the header and is reached
  first : (s : Step) → target_of s ≡ h → source_of s + takes s ≤ length src → end_of s ≤ size
      → sets (sets dst (end_of s) (window slot (b + (end_of s - h)) (size - end_of s))) (target_of s) (carried src s.op)
      ≡ sets (sets dst h (window slot b (size - h))) (target_of s) (carried src s.op)
  first s t r e =
      let k = gives s in
      let front = window slot b k in
      let rest = window slot (b + k) (size - (h + k)) in
      let lf : length front ≡ k = window-length slot b k (omega arith) in
      let es : end_of s ≡ h + k = omega arith in
      let ek : (h + k) - h ≡ k = omega arith in
      let en : size - h ≡ k + (size - (h + k)) = omega arith in
      let eb : h + length front ≡ h + k = omega arith in
      rw (es, ek, t, en, window-add slot b k (size - (h + k)) (omega arith), ← sets_then dst front rest h, eb)
      (under dst front rest (carried src s.op) h k lf (length-carried src s r))

  pub laid-late : (ss : List Step) → h ≤ size → steps_ok h size ss ≡ true
      → run src ss (sets dst (covered_to src h ss) (window slot (b + (covered_to src h ss - h)) (size - covered_to src h ss))) ≡ run src ss (sets dst h (window slot b (size - h)))
  unfolding run run_step
  laid-late [] le ok = let z : h - h ≡ 0 = omega arith in let e : b + 0 ≡ b = omega arith in rw (z, e)
  laid-late (s ∷ ss) le ok = go (eqb (target_of s) h) (reaches src s) refl refl where
    same : (to : ℕ) → to ≡ h → run src (s ∷ ss) (sets dst to (window slot (b + (to - h)) (size - to))) ≡ run src (s ∷ ss) (sets dst h (window slot b (size - h)))
    same to e = let z : h - h ≡ 0 = omega arith in let f : b + 0 ≡ b = omega arith in rw (e, z, f)

    go : (p q : Bool) → eqb (target_of s) h ≡ p → reaches src s ≡ q
        → run src (s ∷ ss) (sets dst (cond (p && q) (end_of s) h) (window slot (b + (cond (p && q) (end_of s) h - h)) (size - cond (p && q) (end_of s) h)))
        ≡ run src (s ∷ ss) (sets dst h (window slot b (size - h)))
    go true true ep eq =
        let t = eqb-true (target_of s) h ep in
        let r = leb-true (source_of s + takes s) (length src) eq in
        rw eq (ap (λ d. run src ss d) (first s t r (step-ends h size s ss ok).1))
    go true false ep eq = same h refl
    go false q ep eq = same h refl
