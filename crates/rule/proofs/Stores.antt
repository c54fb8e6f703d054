-- The stores of a run of steps are the run byte by byte. Assumes nothing.
use Prim.Native.Nat.{ℕ, zero, suc, ◌+◌, ◌-◌, ◌≤◌, ◌<◌}
use native.Mathlib.Decide.{dec_lt}
use native.Mathlib.Nat.{add-zero, le_of_suc-le-suc, not-suc-le-zero}
use native.Mathlib.Omega.{arith}
use mathlib.Core.Path.{◌≡◌, refl, ap, ◌∙◌}
use mathlib.Core.Bool.{Bool, true, false, cond, ◌&&◌}
use mathlib.Core.List.{List, [], ◌∷◌}
use borrow.Author.Tests.{leb-true, ltb-true, le-leb, lt-leb, lt-ltb, le-ltb}
use lib.Dec.{leb, ltb}
use lib.ListN.{length}
use lib.Seq.{sets, length-sets}
use Rattle.lent.specs.Bytes.{byte_at}
use Rattle.lent.proofs.Scan.{both}
use Rattle.lent.proofs.Stored.{get-below, get_in, get-past}
use Rattle.step.specs.Step.{source_of, takes, target_of, gives, end_of, step_ok, within, steps_ok}
use Rattle.step.specs.declared.Step.{Step}
use Rattle.interpreter.specs.Run.{carried, reaches, run_step, run}
use Rattle.interpreter.proofs.Runs.{length-carried}
use Rattle.rule.specs.Bytewise.{writes, step_byte, run_byte, bytewise}

-- ---- the byte of a list that was changed byte by byte

pub length-bytewise : (f : ℕ → ℕ → ℕ) (h : ℕ) (b : List ℕ) → length (bytewise f h b) ≡ length b
unfolding bytewise
length-bytewise f h [] = refl
length-bytewise f h (x ∷ xs) = ap suc (length-bytewise f (suc h) xs)

pub byte-bytewise : (f : ℕ → ℕ → ℕ) (h : ℕ) (b : List ℕ) (i : ℕ) → i < length b → byte_at (bytewise f h b) i ≡ f (h + i) (byte_at b i)
unfolding bytewise
byte-bytewise f h [] i l = absurd (not-suc-le-zero l)
byte-bytewise f h (x ∷ xs) zero l = rw (add-zero h)
byte-bytewise f h (x ∷ xs) (suc i) l =
    byte-bytewise f (suc h) xs i (le_of_suc-le-suc l) ∙ ap (λ (k : ℕ). f k (byte_at xs i)) (omega arith)

-- ---- the byte of a list that bytes were stored in

pub get : (vs l : List ℕ) (at n j : ℕ) → length vs ≡ n → at + n ≤ length l
    → byte_at (sets l at vs) j ≡ cond (leb at j && ltb j (at + n)) (byte_at vs (j - at)) (byte_at l j)
get vs l at n j e h =
    elim (dec_lt j at) [
      | yes p ↦ rw (lt-leb at j p) (get-below vs l at j p)
      | no p ↦ elim (dec_lt j (at + n)) [
        | yes q ↦ rw (le-leb at j (omega arith), lt-ltb j (at + n) q)
            (ap (λ (k : ℕ). byte_at (sets l at vs) k) (omega arith) ∙ get_in vs l at (j - at) (omega arith) (omega arith))
        | no q ↦ rw (le-leb at j (omega arith), le-ltb j (at + n) (omega arith)) (get-past vs l at j (omega arith))
      ]
    ]

-- ---- one step

module _ (src : List ℕ) (s : Step) (d : List ℕ) where
  pub step-length : length (run_step src s d) ≡ length d
  unfolding run_step
  step-length = go (reaches src s) where
    go : (p : Bool) → length (cond p (sets d (target_of s) (carried src s.op)) d) ≡ length d
    go true = length-sets d (target_of s) (carried src s.op)
    go false = refl

  pub step-byte : (i : ℕ) → end_of s ≤ length d → byte_at (run_step src s d) i ≡ step_byte src s i (byte_at d i)
  unfolding run_step step_byte
  step-byte i h = go (reaches src s) (leb-true (source_of s + takes s) (length src)) where
    go : (p : Bool) → (p ≡ true → source_of s + takes s ≤ length src)
        → byte_at (cond p (sets d (target_of s) (carried src s.op)) d) i ≡ cond (p && writes s i) (byte_at (carried src s.op) (i - target_of s)) (byte_at d i)
    go true f = get (carried src s.op) d (target_of s) (gives s) i (length-carried src s (f refl)) h
    go false f = refl

-- ---- a byte where a step does not write

pub step-out : (src : List ℕ) (s : Step) (i old : ℕ) → (target_of s ≤ i → i < end_of s → ⊥) → step_byte src s i old ≡ old
unfolding step_byte
step-out src s i old h = go (reaches src s) (leb (target_of s) i) (ltb i (end_of s)) (leb-true _ _) (ltb-true _ _) where
  go : (p a b : Bool) → (a ≡ true → target_of s ≤ i) → (b ≡ true → i < end_of s) → cond (p && (a && b)) (byte_at (carried src s.op) (i - target_of s)) old ≡ old
  go true true true f g = absurd (h (f refl) (g refl))
  go true true false f g = refl
  go true false b f g = refl
  go false a b f g = refl

-- ---- steps that keep a plan's rules

-- what they say of the first, and of the rest
pub record First (low high : ℕ) (s : Step) (ss : List Step) : Type 0 where
  pub ok : step_ok s ≡ true
  pub from : low ≤ target_of s
  pub to : end_of s ≤ high
  pub rest : steps_ok (end_of s) high ss ≡ true

pub first_of : (low high : ℕ) (s : Step) (ss : List Step) → steps_ok low high (s ∷ ss) ≡ true → First low high s ss
unfolding steps_ok
first_of low high s ss e =
    let a = both (step_ok s && within low high s) (steps_ok (end_of s) high ss) e in
    let b = both (step_ok s) (within low high s) a.0 in
    let c = both (leb low (target_of s)) (leb (end_of s) high) b.1 in
    record { ok = b.0; from = leb-true _ _ c.0; to = leb-true _ _ c.1; rest = a.1 }

pub of-first : (low high : ℕ) (s : Step) (ss : List Step) → First low high s ss → steps_ok low high (s ∷ ss) ≡ true
unfolding steps_ok
of-first low high s ss f = rw (f.ok, le-leb _ _ f.from, le-leb _ _ f.to) f.rest

-- a byte outside is as it was
pub run_out : (src : List ℕ) (low high : ℕ) (ss : List Step) (i old : ℕ) → steps_ok low high ss ≡ true → (low ≤ i → i < high → ⊥) → run_byte src ss i old ≡ old
unfolding run_byte
run_out src low high [] i old e h = refl
run_out src low high (s ∷ ss) i old e h =
    let f = first_of low high s ss e in
    let x : step_byte src s i old ≡ old = step-out src s i old (λ a b. h (omega arith) (omega arith)) in
    rw x (run_out src (end_of s) high ss i old f.rest (λ a b. h (omega arith) b))

pub run_length : (src : List ℕ) (ss : List Step) (d : List ℕ) → length (run src ss d) ≡ length d
unfolding run
run_length src [] d = refl
run_length src (s ∷ ss) d = run_length src ss (run_step src s d) ∙ step-length src s d

pub run-byte : (src : List ℕ) (low high : ℕ) (ss : List Step) (d : List ℕ) (i : ℕ) → steps_ok low high ss ≡ true → high ≤ length d
    → byte_at (run src ss d) i ≡ run_byte src ss i (byte_at d i)
unfolding run run_byte
run-byte src low high [] d i e h = refl
run-byte src low high (s ∷ ss) d i e h =
    let f = first_of low high s ss e in
    let l = step-length src s d in
    run-byte src (end_of s) high ss (run_step src s d) i f.rest (omega arith)
    ∙ ap (λ (o : ℕ). run_byte src ss i o) (step-byte src s d i (omega arith))
