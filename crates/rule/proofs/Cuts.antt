-- However copies inside the source base are cut or joined, a run makes the same of each byte; and the planner's joining is such. Assumes nothing.
use Prim.Native.Nat.{ℕ, ◌+◌, ◌-◌, ◌≤◌, ◌<◌}
use native.Mathlib.Decide.{dec_lt}
use native.Mathlib.Omega.{arith}
use mathlib.Core.Path.{◌≡◌, refl, sym, ap, ◌∙◌}
use mathlib.Core.Bool.{Bool, true, false, cond, ◌&&◌, false≢true}
use mathlib.Core.List.{List, [], ◌∷◌, ◌++◌}
use borrow.Author.Tests.{leb-true, eqb-true, le-leb, lt-ltb}
use lib.Dec.{leb, eqb}
use lib.ListN.{length, drop}
use lib.Seq.{get_or-take, get_or-drop}
use Rattle.lent.specs.Bytes.{byte_at}
use Rattle.lent.proofs.Scan.{both}
use Rattle.step.specs.Step.{copy, source_op, takes_op, target_op, source_of, takes, target_of}
use Rattle.step.specs.declared.Op.{Op}
use Rattle.step.specs.declared.Op.TheVariants.{Copy, Int}
use Rattle.step.specs.declared.Step.{Step}
use Rattle.coalesce.specs.Joins.{is_copy, in_bases, adjacent, joins, joined, join_from, join_all}
use Rattle.rule.specs.Bytewise.{step_byte, run_byte}
use Rattle.rule.specs.Recut.{Recut, same, cut, back, then}
use Rattle.rule.proofs.Stores.{step-out}

-- ---- one copy, cut in two

-- a byte of a copy that is not skipped
pub copy-in : (src : List ℕ) (s d n i old : ℕ) → s + n ≤ length src → d ≤ i → i < d + n → step_byte src (copy s d n) i old ≡ byte_at src (s + (i - d))
unfolding step_byte
copy-in src s d n i old f a b =
    rw (le-leb (s + n) (length src) f, le-leb d i a, lt-ltb i (d + n) b)
    (get_or-take n (drop s src) (i - d) 0 (omega arith) ∙ get_or-drop s src (i - d) 0)

pub cut-byte : (src : List ℕ) (s d n m i old : ℕ) → s + (n + m) ≤ length src
    → step_byte src (copy (s + n) (d + n) m) i (step_byte src (copy s d n) i old) ≡ step_byte src (copy s d (n + m)) i old
cut-byte src s d n m i old f =
    elim (dec_lt i d) [
      | yes h ↦ out (λ a b. omega arith) (λ a b. omega arith) (λ a b. omega arith)
      | no h ↦ elim (dec_lt i (d + n)) [
        | yes k ↦ step-out src (copy (s + n) (d + n) m) i _ (λ a b. omega arith) ∙ copy-in src s d n i old (omega arith) (omega arith) k
            ∙ sym (copy-in src s d (n + m) i old f (omega arith) (omega arith))
        | no k ↦ elim (dec_lt i (d + (n + m))) [
          | yes l ↦ copy-in src (s + n) (d + n) m i _ (omega arith) (omega arith) (omega arith) ∙ ap (byte_at src) (omega arith)
              ∙ sym (copy-in src s d (n + m) i old f (omega arith) l)
          | no l ↦ out (λ a b. omega arith) (λ a b. omega arith) (λ a b. omega arith)
        ]
      ]
    ]
  where
    out : (d + n ≤ i → i < (d + n) + m → ⊥) → (d ≤ i → i < d + n → ⊥) → (d ≤ i → i < d + (n + m) → ⊥)
        → step_byte src (copy (s + n) (d + n) m) i (step_byte src (copy s d n) i old) ≡ step_byte src (copy s d (n + m)) i old
    out p q r =
        step-out src (copy (s + n) (d + n) m) i _ p ∙ step-out src (copy s d n) i old q ∙ sym (step-out src (copy s d (n + m)) i old r)

-- ---- any cuts and joins

run-append : (src : List ℕ) (p q : List Step) (i old : ℕ) → run_byte src (p ++ q) i old ≡ run_byte src q i (run_byte src p i old)
unfolding run_byte
run-append src [] q i old = refl
run-append src (s ∷ p) q i old = run-append src p q i (step_byte src s i old)

pub recut-byte : (src : List ℕ) (base : ℕ) {p q : List Step} (i old : ℕ) → base ≤ length src → Recut base p q → run_byte src p i old ≡ run_byte src q i old
unfolding run_byte
recut-byte src base i old h (same e) = ap (λ (l : List Step). run_byte src l i old) e
recut-byte src base i old h (back r) = sym (recut-byte src base i old h r)
recut-byte src base i old h (then r s) = recut-byte src base i old h r ∙ recut-byte src base i old h s
recut-byte src base {p} {q} i old h (cut a z s d n m inside ep eq) =
    let x = run_byte src a i old in
    rw (ep, eq)
    (run-append src a (copy s d (n + m) ∷ z) i old
    ∙ ap (λ (o : ℕ). run_byte src z i o) (sym (cut-byte src s d n m i x (omega arith)))
    ∙ sym (run-append src a (copy s d n ∷ copy (s + n) (d + n) m ∷ z) i old))

-- ---- the planner's joining

recut-cons : (base : ℕ) (s : Step) {p q : List Step} → Recut base p q → Recut base (s ∷ p) (s ∷ q)
recut-cons base s (same e) = same (ap (λ (l : List Step). s ∷ l) e)
recut-cons base s (back r) = back (recut-cons base s r)
recut-cons base s (then r t) = then (recut-cons base s r) (recut-cons base s t)
recut-cons base s (cut a z from to n m inside ep eq) =
    cut (s ∷ a) z from to n m inside (ap (λ (l : List Step). s ∷ l) ep) (ap (λ (l : List Step). s ∷ l) eq)

-- two steps that join are copies, the second behind the first and inside the source base
pub record Joined (src_base base : ℕ) (a b : Step) : Type 0 where
  pub first : a ≡ copy (source_of a) (target_of a) (takes a)
  pub second : b ≡ copy (source_of a + takes a) (target_of a + takes a) (takes b)
  pub inside : source_of a + (takes a + takes b) ≤ src_base

pub joins-are : (src_base base : ℕ) (a b : Step) → joins src_base base a b ≡ true → Joined src_base base a b
unfolding joins
joins-are src_base base a b e =
    let p = both (is_copy a.op && is_copy b.op) ((in_bases src_base base a && in_bases src_base base b) && adjacent a b) e in
    let q = both (is_copy a.op) (is_copy b.op) p.0 in
    let r = both (in_bases src_base base a && in_bases src_base base b) (adjacent a b) p.1 in
    let t = both (in_bases src_base base a) (in_bases src_base base b) r.0 in
    let u = both (leb (source_of b + takes b) src_base) (leb (target_of b + takes b) base) t.1 in
    let v = both (eqb (source_of a + takes a) (source_of b)) (eqb (target_of a + takes a) (target_of b)) r.1 in
    let in-base : source_of b + takes b ≤ src_base = leb-true _ _ u.0 in
    let ev : source_of a + takes a ≡ source_of b = eqb-true _ _ v.0 in
    let ew : target_of a + takes a ≡ target_of b = eqb-true _ _ v.1 in
    record { first = is-copy a.op q.0; second = rw (ev, ew) (is-copy b.op q.1); inside = omega arith } where
      is-copy : (op : Op) → is_copy op ≡ true → ◌≡◌ {A = Step} (record { op = op }) (copy (source_op op) (target_op op) (takes_op op))
      is-copy (Copy source target size) e = refl
      is-copy (Int source target from to signed marked) e = absurd (false≢true e)

module _ (src_base base : ℕ) where
  join-recut : (a b : Step) (ss : List Step) → joins src_base base a b ≡ true → Recut src_base (joined a b ∷ ss) (a ∷ b ∷ ss)
  join-recut a b ss e =
      let j = joins-are src_base base a b e in
      cut [] ss (source_of a) (target_of a) (takes a) (takes b) j.inside refl
      (ap (λ (s : Step). s ∷ b ∷ ss) j.first ∙ ap (λ (s : Step). copy (source_of a) (target_of a) (takes a) ∷ s ∷ ss) j.second)

  join_from-recut : (a : Step) (ss : List Step) → Recut src_base (join_from src_base base a ss) (a ∷ ss)
  unfolding join_from
  join_from-recut a [] = same refl
  join_from-recut a (b ∷ ss) = go (joins src_base base a b) (join-recut a b ss) (join_from-recut (joined a b) ss) (join_from-recut b ss) where
    go : (t : Bool) → (t ≡ true → Recut src_base (joined a b ∷ ss) (a ∷ b ∷ ss)) → Recut src_base (join_from src_base base (joined a b) ss) (joined a b ∷ ss)
        → Recut src_base (join_from src_base base b ss) (b ∷ ss) → Recut src_base (cond t (join_from src_base base (joined a b) ss) (a ∷ join_from src_base base b ss)) (a ∷ b ∷ ss)
    go true j x y = then x (j refl)
    go false j x y = recut-cons src_base a y

  pub join_all-recut : (ss : List Step) → Recut src_base (join_all src_base base ss) ss
  unfolding join_all
  join_all-recut [] = same refl
  join_all-recut (a ∷ ss) = join_from-recut a ss
