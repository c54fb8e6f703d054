-- The place of the first field that passes a test: what it says, and a test that passes more. Assumes nothing.
use mathlib.Core.Path.{◌≡◌, refl, sym, ap, ◌∙◌}
use mathlib.Core.Bool.{Bool, true, false, cond, false≢true}
use mathlib.Core.List.{List, [], ◌∷◌}
use Prim.Native.Nat.{ℕ, zero, suc, ◌+◌, ◌-◌, ◌*◌, ◌/◌, ◌≤◌, ◌<◌}
use native.Mathlib.Omega.{arith}
use lib.ListN.{length}
use Rattle.std.specs.Prelude.{Some, None}
use Rattle.std.specs.List.{position_from}
use Rattle.lent.specs.Scan.{gather, first}
use Rattle.lent.proofs.Scan.{turn, none}
use Rattle.field.specs.Field.{field_at, fields_of}
use Rattle.field.specs.declared.FieldDef.{FieldDef}

-- ---- the fields from place k on

module _ (t : List ℕ) where
  abbrev pub fields_from : ℕ → List FieldDef
  fields_from k = gather (field_at t) 16 (16 * k) (length t / 16 - k)

  pub from-turn : (k : ℕ) → k < length t / 16 → fields_from k ≡ field_at t (16 * k) ∷ fields_from (k + 1)
  from-turn k h =
      let at : 16 * k + 16 ≡ 16 * (k + 1) = omega arith in
      let left : (length t / 16 - k) - 1 ≡ length t / 16 - (k + 1) = omega arith in
      rw (← at, ← left) (turn (field_at t) 16 (16 * k) (length t / 16 - k) (omega arith))

  pub from_start : (k : ℕ) → k ≡ 0 → fields_from k ≡ fields_of t
  from_start k e =
      let all : length t / 16 - k ≡ length t / 16 = omega arith in
      let at : 16 * k ≡ 0 = omega arith in
      rw (all, at)

  pub from_end : (k : ℕ) → length t / 16 ≤ k → fields_from k ≡ []
  from_end k h = none (field_at t) 16 (16 * k) (length t / 16 - k) (omega arith)

-- ---- what a place says

module _ (test : FieldDef → Bool) where
  pub no_place : {B : Type 0} (give : FieldDef → B) (missing : B) (k : ℕ) (fs : List FieldDef) → position_from test k fs ≡ None → first test give missing fs ≡ missing
  unfolding first
  no_place give missing k [] e = refl
  no_place {B} give missing k (f ∷ fs) e = go (test f) (no_place give missing (k + 1) fs) e where
    go : (p : Bool) → (position_from test (k + 1) fs ≡ None → first test give missing fs ≡ missing)
        → cond p (Some k) (position_from test (k + 1) fs) ≡ None → cond p (give f) (first test give missing fs) ≡ missing
    go true ih z = cc
    go false ih z = ih z

  module _ (read : ℕ → FieldDef) where
    pub within : (k at n e : ℕ) → position_from test k (gather read 16 at n) ≡ Some e → (k ≤ e) × (e < k + n)
    unfolding gather
    within k at zero e so = absurd (let z : ◌≡◌ {A = ℕ} 0 1 = cc in omega arith)
    within k at (suc n) e so = go (test (read at)) (within (k + 1) (at + 16) n e) so where
      go : (p : Bool) → (position_from test (k + 1) (gather read 16 (at + 16) n) ≡ Some e → (k + 1 ≤ e) × (e < (k + 1) + n))
          → cond p (Some k) (position_from test (k + 1) (gather read 16 (at + 16) n)) ≡ Some e → (k ≤ e) × (e < k + suc n)
      go true ih z = let here : k ≡ e = cc in (omega arith, omega arith)
      go false ih z = let i = ih z in (omega arith, omega arith)

    -- the field there is the first
    pub is-first : {B : Type 0} (give : FieldDef → B) (missing : B) (k at n e : ℕ) → position_from test k (gather read 16 at n) ≡ Some e
        → first test give missing (gather read 16 at n) ≡ give (read (at + 16 * (e - k)))
    unfolding gather first
    is-first give missing k at zero e so = absurd (let z : ◌≡◌ {A = ℕ} 0 1 = cc in omega arith)
    is-first {B} give missing k at (suc n) e so =
        go (test (read at)) (is-first give missing (k + 1) (at + 16) n e) (within (k + 1) (at + 16) n e) so where
          go : (p : Bool)
              → (position_from test (k + 1) (gather read 16 (at + 16) n) ≡ Some e → first test give missing (gather read 16 (at + 16) n) ≡ give (read ((at + 16) + 16 * (e - (k + 1)))))
              → (position_from test (k + 1) (gather read 16 (at + 16) n) ≡ Some e → (k + 1 ≤ e) × (e < (k + 1) + n))
              → cond p (Some k) (position_from test (k + 1) (gather read 16 (at + 16) n)) ≡ Some e
              → cond p (give (read at)) (first test give missing (gather read 16 (at + 16) n)) ≡ give (read (at + 16 * (e - k)))
          go true ih near z =
              let same : k ≡ e = cc in
              let here : at ≡ at + 16 * (e - k) = omega arith in
              ap (λ (p : ℕ). give (read p)) here
          go false ih near z =
              let i = near z in
              let on : (at + 16) + 16 * (e - (k + 1)) ≡ at + 16 * (e - k) = omega arith in
              ih z ∙ ap (λ (p : ℕ). give (read p)) on

-- ---- a place of a whole table

module _ (t : List ℕ) (test : FieldDef → Bool) (e : ℕ) (so : position_from test 0 (fields_of t) ≡ Some e) where
  pub inside : 16 * e + 16 ≤ length t
  inside = let z = within test (field_at t) 0 0 (length t / 16) e so in omega arith

  pub gives : {B : Type 0} (give : FieldDef → B) (missing : B) → first test give missing (fields_of t) ≡ give (field_at t (16 * e))
  gives give missing =
      let at : 0 + 16 * (e - 0) ≡ 16 * e = omega arith in
      rw (← at) (is-first test (field_at t) give missing 0 0 (length t / 16) e so)

-- ---- a test that passes more

module _ (test more : FieldDef → Bool) (wider : (f : FieldDef) → test f ≡ true → more f ≡ true) where
  pub none_at_all : (k : ℕ) (fs : List FieldDef) → position_from more k fs ≡ None → position_from test k fs ≡ None
  none_at_all k [] e = refl
  none_at_all k (f ∷ fs) e = go (test f) (more f) (wider f) (none_at_all (k + 1) fs) e where
    go : (p q : Bool) → (p ≡ true → q ≡ true) → (position_from more (k + 1) fs ≡ None → position_from test (k + 1) fs ≡ None)
        → cond q (Some k) (position_from more (k + 1) fs) ≡ None → cond p (Some k) (position_from test (k + 1) fs) ≡ None
    go p true w ih z = absurd (let z : ◌≡◌ {A = ℕ} 0 1 = cc in omega arith)
    go true false w ih z = absurd (false≢true (w refl))
    go false false w ih z = ih z

  -- the first of the wider test passes the other: it is its first too
  pub same_place : (read : ℕ → FieldDef) (k at n e : ℕ) → position_from more k (gather read 16 at n) ≡ Some e
      → test (read (at + 16 * (e - k))) ≡ true → position_from test k (gather read 16 at n) ≡ Some e
  unfolding gather
  same_place read k at zero e so passes = absurd (let z : ◌≡◌ {A = ℕ} 0 1 = cc in omega arith)
  same_place read k at (suc n) e so passes =
      go (test (read at)) (more (read at)) (wider (read at)) refl (same_place read (k + 1) (at + 16) n e) (within more read (k + 1) (at + 16) n e) so where
        go : (p q : Bool) → (p ≡ true → q ≡ true) → test (read at) ≡ p
            → (position_from more (k + 1) (gather read 16 (at + 16) n) ≡ Some e → test (read ((at + 16) + 16 * (e - (k + 1)))) ≡ true → position_from test (k + 1) (gather read 16 (at + 16) n) ≡ Some e)
            → (position_from more (k + 1) (gather read 16 (at + 16) n) ≡ Some e → (k + 1 ≤ e) × (e < (k + 1) + n))
            → cond q (Some k) (position_from more (k + 1) (gather read 16 (at + 16) n)) ≡ Some e
            → cond p (Some k) (position_from test (k + 1) (gather read 16 (at + 16) n)) ≡ Some e
        go true true w ep ih near z = z
        go true false w ep ih near z = absurd (false≢true (w refl))
        go false true w ep ih near z =
            let same : k ≡ e = cc in
            let here : at + 16 * (e - k) ≡ at = omega arith in
            absurd (false≢true (sym ep ∙ ap (λ (p : ℕ). test (read p)) (sym here) ∙ passes))
        go false false w ep ih near z =
            let i = near z in
            let on : at + 16 * (e - k) ≡ (at + 16) + 16 * (e - (k + 1)) = omega arith in
            ih z (rw on at passes)
