-- The answers of the dispatch, case by case, and what they leave of the target. Assumes nothing.
use mathlib.Core.Path.{◌≡◌, refl, ap, ◌∙◌}
use mathlib.Core.Bool.{Bool, true, false, ◌||◌, true≢false}
use mathlib.Core.List.{List}
use Rattle.std.specs.Prelude.{Some, None, Result, Err}
use Prim.Native.Nat.{ℕ, ◌-◌, ◌≤◌, ◌<◌}
use lib.Dec.{ltb}
use lib.ListN.{length}
use lib.Seq.{sets, length-take-le}
use borrow.Author.Tests.{lt-ltb, le-ltb, ltb-false}
use Rattle.limits.specs.declared.refusal.Refusal.{Refusal}
use Rattle.limits.specs.declared.refusal.Refusal.TheVariants.{BadHeader, BadLength, Unplanned, NoRoom, BadPlan}
use Rattle.limits.specs.Limits.{max_bytes, max_header}
use Rattle.lent.specs.Bytes.{window}
use Rattle.slot.specs.Slot.{size_in, plan_in, slot_ok}
use Rattle.interpreter.specs.Run.{upgraded}
use Rattle.dispatch.specs.Dispatch.{bad_length, record_in, done, after, planned_of, applied_of, after_apply, first_plan, slot_at, listed, bare_size, bare_of, upgraded_of, after_upgrade}
use Rattle.dispatch.specs.declared.Upgraded.{Upgraded}

-- ---- without a plan
module _ (unplanned : List ℕ) (rtype src_header dst_header stated : ℕ) (dst new : List ℕ) where
  abbrev Bare : Result Upgraded Refusal → List ℕ → Type 0
  Bare answer target =
      (answer ≡ bare_of unplanned rtype src_header dst_header stated dst) × (target ≡ after (bare_of unplanned rtype src_header dst_header stated dst) new dst)

  pub bare-listed : listed unplanned rtype ≡ true → Bare (Err Unplanned) dst
  unfolding bare_of
  bare-listed e = rw e (refl, refl)

  module _ (e : listed unplanned rtype ≡ false) where
    pub bare-full : length dst < bare_size src_header dst_header stated → Bare (Err NoRoom) dst
    unfolding bare_of
    bare-full h = rw (e, lt-ltb (length dst) (bare_size src_header dst_header stated) h) (refl, refl)

    pub bare-done : bare_size src_header dst_header stated ≤ length dst → (target : List ℕ) → target ≡ new → Bare (done rtype (bare_size src_header dst_header stated)) target
    unfolding bare_of
    bare-done h target et = rw (e, le-ltb (length dst) (bare_size src_header dst_header stated) h) (refl, et)

-- ---- by a plan
module _ (slot dst new : List ℕ) where
  abbrev Planned : Result Upgraded Refusal → List ℕ → Type 0
  Planned answer target = (answer ≡ planned_of slot dst) × (target ≡ after (planned_of slot dst) new dst)

  pub planned-full : length dst < size_in slot → Planned (Err NoRoom) dst
  unfolding planned_of
  planned-full h = rw (lt-ltb (length dst) (size_in slot) h) (refl, refl)

  module _ (h : size_in slot ≤ length dst) where
    pub planned-bad : slot_ok slot ≡ false → Planned (Err BadPlan) dst
    unfolding planned_of
    planned-bad e = rw (le-ltb (length dst) (size_in slot) h, e) (refl, refl)

    pub planned-done : slot_ok slot ≡ true → (target : List ℕ) → target ≡ new → Planned (done (plan_in slot).rtype (size_in slot)) target
    unfolding planned_of
    planned-done e target et = rw (le-ltb (length dst) (size_in slot) h, e) (refl, et)

module _ (slot src : List ℕ) (stated : ℕ) (dst : List ℕ) where
  abbrev Applied : Result Upgraded Refusal → List ℕ → Type 0
  Applied answer target = (answer ≡ applied_of slot src stated dst) × (target ≡ after_apply slot src stated dst)

  pub apply-refused : bad_length src stated ≡ true → Applied (Err BadLength) dst
  unfolding applied_of
  apply-refused e = rw e (refl, refl)

  pub apply-goes : bad_length src stated ≡ false → (answer : Result Upgraded Refusal) (target rec : List ℕ) → rec ≡ record_in src stated
      → Planned slot dst (upgraded (plan_in slot) rec dst) answer target → Applied answer target
  unfolding applied_of
  apply-goes e answer target rec er p = rw (e, ← er) p

-- ---- the dispatch

either-not : (a b : Bool) → (a || b) ≡ false → (a ≡ false) × (b ≡ false)
either-not true b e = absurd (true≢false e)
either-not false b e = (refl, e)

-- headers and a length that pass
pub header-fine : (a b : ℕ) → (ltb max_header a || ltb max_header b) ≡ false → b ≤ max_header
header-fine a b e = ltb-false max_header b (either-not (ltb max_header a) (ltb max_header b) e).1

pub length-fine : (src : List ℕ) (stated header : ℕ) → (bad_length src stated || ltb stated header) ≡ false
    → (length (record_in src stated) ≡ stated) × (stated ≤ max_bytes) × (header ≤ stated)
length-fine src stated header e =
    let parts = either-not (bad_length src stated) (ltb stated header) e in
    let two = either-not (ltb (length src) stated) (ltb max_bytes stated) parts.0 in
    (length-take-le stated src (ltb-false (length src) stated two.0), ltb-false max_bytes stated two.1, ltb-false stated header parts.1)

module _ (plans unplanned : List ℕ) (rtype src_header dst_header : ℕ) (src : List ℕ) (stated : ℕ) (dst : List ℕ) where
  abbrev Dispatched : Result Upgraded Refusal → List ℕ → Type 0
  Dispatched answer target =
      (answer ≡ upgraded_of plans unplanned rtype src_header dst_header src stated dst) × (target ≡ after_upgrade plans unplanned rtype src_header dst_header src stated dst)

  pub bad-header : (ltb max_header src_header || ltb max_header dst_header) ≡ true → Dispatched (Err BadHeader) dst
  unfolding upgraded_of
  bad-header e = rw e (refl, refl)

  module _ (h : (ltb max_header src_header || ltb max_header dst_header) ≡ false) where
    pub bad-length : (bad_length src stated || ltb stated src_header) ≡ true → Dispatched (Err BadLength) dst
    unfolding upgraded_of
    bad-length e = rw (h, e) (refl, refl)

    module _ (l : (bad_length src stated || ltb stated src_header) ≡ false) (answer : Result Upgraded Refusal) (target rec : List ℕ) (er : rec ≡ record_in src stated) where
      pub by-plan : (at : ℕ) (slot : List ℕ) → first_plan plans rtype ≡ Some at → slot ≡ slot_at plans at
          → Planned slot dst (upgraded (plan_in slot) rec dst) answer target → Dispatched answer target
      unfolding upgraded_of
      by-plan at slot ec es p = rw (h, l, ec, ← er, ← es) p

      pub by-none : first_plan plans rtype ≡ None
          → Bare unplanned rtype src_header dst_header (length rec) dst (sets dst dst_header (window rec src_header (length rec - src_header))) answer target
          → Dispatched answer target
      unfolding upgraded_of
      by-none ec p =
          let n : length rec ≡ stated = ap length er ∙ (length-fine src stated src_header l).0 in
          rw (h, l, ec, ← er) (rw n at p)
