-- The numbers and steps that are taken out of any text, one behind the other. Assumes nothing.
use mathlib.Core.Path.{◌≡◌, refl, sym, ◌∙◌}
use mathlib.Core.Bool.{true, false}
use mathlib.Core.List.{List}
use Prim.Native.Nat.{ℕ, zero, suc, ◌+◌, ◌-◌, ◌*◌, ◌/◌, ◌%◌, ◌<◌}
use native.Mathlib.Omega.{arith}
use lib.ListN.{length, drop, set}
use lib.Seq.{sets}
use lib.Dec.{eqb}
use borrow.Author.Tests.{eq-eqb, ne_eqb}
use Rattle.lent.specs.Bytes.{window}
use Rattle.lent.proofs.Stored.{sets_then, whole}
use Rattle.step.specs.Packed.{packed_of}
use Rattle.step.specs.declared.Op.TheVariants.{Copy, Int}
use Rattle.step.specs.declared.Step.{Step}
use Rattle.slot.specs.Slot.{packed_steps}
use Rattle.slot.proofs.Packing.{packed-size}
use Rattle.decimal.specs.Decimal.{head, pasts}
use Rattle.decimal.specs.Taken.{Taken, Skipped}
use Rattle.plan_take.specs.Lenient.{is_copy, copy_as, int_as, step_as, step_past, steps_as, numbers_as}

-- ---- numbers

module _ {t : List ℕ} {at v next : ℕ} (n k : ℕ) (h : k < n) (taken : Taken t at v next) where
  pub numbers-turn : (d all : List ℕ) → sets d (2 * k) (numbers_as (n - k) (drop at t)) ≡ all
      → sets (set (set d (2 * k) (v % 256)) (2 * k + 1) (v / 256 % 256)) (2 * (k + 1)) (numbers_as (n - (k + 1)) (drop next t)) ≡ all
  unfolding numbers_as
  numbers-turn d all so =
      let e : n - k ≡ suc (n - (k + 1)) = omega arith in
      let a : 2 * k + 1 ≡ suc (2 * k) = omega arith in
      let b : 2 * (k + 1) ≡ suc (suc (2 * k)) = omega arith in
      rw (a, b, taken.number-there, taken.rest) (rw e at so)

  pub pasts-turn : (all : List ℕ) → pasts (n - k) (drop at t) ≡ all → pasts (n - (k + 1)) (drop next t) ≡ all
  unfolding pasts
  pasts-turn all so =
      let e : n - k ≡ suc (n - (k + 1)) = omega arith in
      rw taken.rest (rw e at so)

-- ---- a step

module _ {t : List ℕ} {at a na b nb c nc : ℕ} (ka : Taken t at a na) (kb : Taken t na b nb) (kc : Taken t nb c nc) where
  pub copy-drawn : ◌≡◌ {A = Step} (record { op = Copy a b c }) (record { op = copy_as (drop at t) })
  unfolding pasts
  copy-drawn = rw (ka.number-there, kb.number-there, kc.number-there, kb.rest, ka.rest)

  pub copy-behind : drop nc t ≡ pasts 3 (drop at t)
  unfolding pasts
  copy-behind = rw (kc.rest, kb.rest, ka.rest)

  module _ {d nd g m h e : ℕ} (kd : Taken t nc d nd) (eg : g ≡ head (drop nd t)) (km : Skipped t nd 2 m) (eh : h ≡ head (drop m t)) (ke : Skipped t nd 4 e) where
    pub int-drawn : ◌≡◌ {A = Step} (record { op = Int a b c d (eqb g 115) (eqb h 49) }) (record { op = int_as (drop at t) })
    unfolding pasts
    int-drawn = rw (ka.number-there, kb.number-there, kc.number-there, kd.number-there, eg, eh, km.rest, kd.rest, kc.rest, kb.rest, ka.rest)

    pub int-behind : drop e t ≡ drop 4 (pasts 4 (drop at t))
    unfolding pasts
    int-behind = rw (ke.rest, kd.rest, kc.rest, kb.rest, ka.rest)

module _ {t : List ℕ} {at f s : ℕ} (ef : f ≡ head (drop at t)) where
  module _ (e : f ≡ 99) (ks : Skipped t at 5 s) where
    is-copy : is_copy (drop at t) ≡ true
    is-copy = eq-eqb (head (drop at t)) 99 (sym ef ∙ e)

    pub as_copy : (st : Step) → st ≡ record { op = copy_as (drop s t) } → st ≡ step_as (drop at t)
    unfolding step_as
    as_copy st z = z ∙ rw (is-copy, ks.rest)

    pub past-copy : (next : ℕ) → drop next t ≡ pasts 3 (drop s t) → drop next t ≡ step_past (drop at t)
    unfolding step_past
    past-copy next z = z ∙ rw (is-copy, ks.rest)

  module _ (e : f ≡ 99 → ⊥) (ks : Skipped t at 4 s) where
    no_copy : is_copy (drop at t) ≡ false
    no_copy = ne_eqb (head (drop at t)) 99 (λ z. e (ef ∙ z))

    pub as_int : (st : Step) → st ≡ record { op = int_as (drop s t) } → st ≡ step_as (drop at t)
    unfolding step_as
    as_int st z = z ∙ rw (no_copy, ks.rest)

    pub past-int : (next : ℕ) → drop next t ≡ drop 4 (pasts 4 (drop s t)) → drop next t ≡ step_past (drop at t)
    unfolding step_past
    past-int next z = z ∙ rw (no_copy, ks.rest)

-- ---- the steps

pub drawn-turn : (t d all bytes : List ℕ) (left at next to : ℕ) (st : Step) → 0 < left → st ≡ step_as (drop at t) → drop next t ≡ step_past (drop at t) → bytes ≡ packed_of st
    → sets d to (packed_steps (steps_as left (drop at t))) ≡ all → sets (sets d to (window bytes 0 16)) (to + 16) (packed_steps (steps_as (left - 1) (drop next t))) ≡ all
unfolding steps_as
drawn-turn t d all bytes left at next to st h es en eb so =
    let e : left ≡ suc (left - 1) = omega arith in
    let p = packed-size st in
    let w : window bytes 0 16 ≡ packed_of st = rw eb (whole (packed_of st) 16 (omega arith)) in
    let j = rw p at (sets_then d (packed_of st) (packed_steps (steps_as (left - 1) (step_past (drop at t)))) to) in
    rw (w, en) (j ∙ (rw (← es) at (rw e at so)))

pub drawn-length : (n : ℕ) (l : List ℕ) → length (steps_as n l) ≡ n
unfolding steps_as
drawn-length zero l = refl
drawn-length (suc n) l = rw (drawn-length n (step_past l))
