-- The reader reads every text of the writer back to the plan, and accepts nothing else; two plans have two texts. Assumes nothing.
use mathlib.Core.Path.{◌≡◌, refl, sym, ap, ◌∙◌}
use mathlib.Core.Bool.{Bool, true, false, cond, false≢true}
use mathlib.Core.List.{List, [], ◌∷◌}
use Prim.Native.Nat.{ℕ, ◌≤◌, ◌<◌}
use lib.ListN.{length}
use lib.Seq.{sets}
use lib.Dec.{eqb, leb}
use borrow.Author.Tests.{eq-eqb, eqb-true, le-leb, lt-leb, leb-true, leb-false}
use Rattle.limits.specs.declared.refusal.Refusal.{Refusal}
use Rattle.limits.specs.declared.refusal.Refusal.TheVariants.{BadPlan, NoRoom}
use Rattle.lent.specs.Scan.{alike}
use Rattle.lent.proofs.Scan.{both}
use Rattle.slot.specs.Plan.{Plan, plan_ok}
use Rattle.slot.specs.Slot.{slot_size, slot_of}
use Rattle.plan_text.specs.Text.{text_of}
use Rattle.plan_take.specs.Lenient.{plan_as}
use Rattle.plan_read.specs.Reading.{accepts}
use Rattle.plan_read.specs.Reading.{IsTextOf, Reads, read_of, after_reading}
use Rattle.std.specs.Prelude.{Result, Ok, Err}
use Rattle.plan_read.proofs.Back.{plan-back}

-- ---- equal lists

pub alike_self : (l : List ℕ) → alike eqb l l ≡ true
unfolding alike
alike_self [] = refl
alike_self (a ∷ l) = rw (eq-eqb a a refl, alike_self l)

pub alike_same : (l m : List ℕ) → alike eqb l m ≡ true → l ≡ m
unfolding alike
alike_same [] [] h = refl
alike_same [] (b ∷ m) h = absurd (false≢true h)
alike_same (a ∷ l) [] h = absurd (false≢true h)
alike_same (a ∷ l) (b ∷ m) h =
    let s = both (eqb a b) (alike eqb l m) h in
    let e : a ≡ b = eqb-true a b s.0 in
    let f : l ≡ m = alike_same l m s.1 in
    cc

-- ---- which texts are accepted

-- what is accepted is the writer's own text of a plan that keeps every rule
pub only : (t : List ℕ) → accepts t ≡ true → IsTextOf t (plan_as t)
unfolding accepts
only t a =
    let s = both (plan_ok (plan_as t)) (alike eqb (text_of (plan_as t)) t) a in
    record { keeps = s.0; written = alike_same (text_of (plan_as t)) t s.1 }

-- and each such text is accepted, and read back to that plan
pub plan-of : (t : List ℕ) (p : Plan) → IsTextOf t p → plan_as t ≡ p
plan-of t p w = rw (← w.written) (plan-back p w.keeps)

pub accepted : (t : List ℕ) (p : Plan) → IsTextOf t p → accepts t ≡ true
unfolding accepts
accepted t p w = rw (plan-of t p w, w.keeps, w.written) (alike_self t)

-- a text is of one plan at most: two plans that keep the rules have two texts
pub one-plan : (p q : Plan) → plan_ok p ≡ true → plan_ok q ≡ true → text_of p ≡ text_of q → p ≡ q
one-plan p q op oq e = sym (plan-back p op) ∙ ap plan_as e ∙ plan-back q oq

-- ---- the promise

module _ (t slot : List ℕ) where
  -- what is computed keeps the promise
  pub reads : Reads t slot (read_of t slot) (after_reading t slot)
  unfolding read_of after_reading
  reads =
      record {
        short = λ h. (rw (lt-leb slot_size (length slot) h), rw (lt-leb slot_size (length slot) h));
        found = λ h p w. (rw (le-leb slot_size (length slot) h, accepted t p w), rw (le-leb slot_size (length slot) h, accepted t p w, plan-of t p w));
        none = λ h n. (rw (le-leb slot_size (length slot) h, refused n), rw (le-leb slot_size (length slot) h, refused n));
      }
    where
      refused : ((p : Plan) → IsTextOf t p → ⊥) → accepts t ≡ false
      refused n = go (accepts t) refl where
        go : (b : Bool) → accepts t ≡ b → b ≡ false
        go true e = absurd (n (plan_as t) (only t e))
        go false e = refl

  -- and nothing else does
  pub reads-one : (r : Result Unit Refusal) (a : List ℕ) → Reads t slot r a → (r ≡ read_of t slot) × (a ≡ after_reading t slot)
  unfolding read_of after_reading
  reads-one r a k = go (leb slot_size (length slot)) (leb-true slot_size (length slot)) (leb-false slot_size (length slot)) where
    by : slot_size ≤ length slot → (b : Bool) → accepts t ≡ b
        → (r ≡ cond b (Ok tt) (Err BadPlan)) × (a ≡ cond b (sets slot 0 (slot_of (plan_as t))) slot)
    by h true e = k.found h (plan_as t) (only t e)
    by h false e = k.none h (λ p w. absurd (false≢true (sym e ∙ accepted t p w)))

    go : (b : Bool) → (b ≡ true → slot_size ≤ length slot) → (b ≡ false → length slot < slot_size)
        → (r ≡ cond b (cond (accepts t) (Ok tt) (Err BadPlan)) (Err NoRoom)) × (a ≡ cond b (cond (accepts t) (sets slot 0 (slot_of (plan_as t))) slot) slot)
    go true hi lo = by (hi refl) (accepts t) refl
    go false hi lo = k.short (lo refl)
