-- What the check of a slot finds is what its rules ask. Assumes nothing.
use mathlib.Core.Path.{◌≡◌, refl, sym}
use mathlib.Core.Bool.{Bool, true, false, ◌&&◌, false≢true}
use mathlib.Core.List.{List, [], ◌∷◌}
use Prim.Native.Nat.{ℕ, suc, ◌+◌, ◌-◌, ◌<◌}
use native.Mathlib.Omega.{arith}
use lib.Dec.{leb, ltb}
use lib.ListN.{length, drop, length-take, length-drop, get_or-eq_default}
use lib.Seq.{get_or-take, get_or-drop, length-take-le}
use borrow.Author.Tests.{lt-ltb, eq-eqb, ne_eqb, leb-true, leb-false}
use Rattle.limits.specs.Limits.{max_steps}
use Rattle.lent.specs.Bytes.{byte_at, Bytes, number_at, window}
use Rattle.lent.specs.Scan.{every}
use Rattle.lent.proofs.Scan.{turn, none, gathered-length}
use Rattle.step.specs.Step.{step_ok, within, end_of, steps_ok}
use Rattle.step.specs.Packed.{step_at, flags_ok, steps_at}
use Rattle.step.specs.declared.Step.{Step}
use Rattle.slot.specs.Plan.{is_byte, rtypes_ok, sizes_ok, body_ok, plan_ok}
use Rattle.slot.specs.Slot.{slot_size, steps_from, body_from, header_in, size_in, count_in, plan_in, all_flags, keeps, slot_ok}
use Rattle.slot.proofs.Kept.{sized}

-- ---- a turn over the steps

stop : (f e o r all : Bool) → ((f && e) && (o && r)) ≡ all → (f && o) ≡ false → false ≡ all
stop false e o r all q z = q
stop true false o r all q z = q
stop true true false r all q z = q
stop true true true r all q z = absurd (false≢true (sym z))

go : (f e o r all : Bool) → ((f && e) && (o && r)) ≡ all → (f && o) ≡ true → (e && r) ≡ all
go true e true r all q z = q
go true e false r all q z = absurd (false≢true z)
go false e o r all q z = absurd (false≢true z)

module _ (slot : List ℕ) (at left low high : ℕ) (all : Bool) (so : keeps slot at left low high ≡ all) where
  abbrev here : Step
  here = step_at slot at

  turned : 0 < left → ((flags_ok slot at && all_flags slot (at + 16) (left - 1)) && ((step_ok here && within low high here) && steps_ok (end_of here) high (steps_at slot (at + 16) (left - 1)))) ≡ all
  unfolding every steps_ok
  turned h = rw (turn (λ place. place) 16 at left h, turn (step_at slot) 16 at left h) at so

  -- a step breaks a rule: so does the whole
  pub keeps-stops : 0 < left → (flags_ok slot at && (step_ok here && within low high here)) ≡ false → false ≡ all
  keeps-stops h z = stop (flags_ok slot at) (all_flags slot (at + 16) (left - 1)) _ _ all (turned h) z

  -- it keeps them: the rest decides
  pub keeps-goes : 0 < left → (flags_ok slot at && (step_ok here && within low high here)) ≡ true → keeps slot (at + 16) (left - 1) (end_of here) high ≡ all
  keeps-goes h z = go (flags_ok slot at) (all_flags slot (at + 16) (left - 1)) _ _ all (turned h) z

  pub keeps-ends : left ≡ 0 → true ≡ all
  unfolding every steps_ok
  keeps-ends e = rw (none (λ place. place) 16 at left e, none (step_at slot) 16 at left e) at so

-- ---- the whole slot

pub bytes-every : (xs : List ℕ) → Bytes xs → every is_byte xs ≡ true
unfolding every
bytes-every [] h = refl
bytes-every (x ∷ xs) h = rw (lt-ltb x 256 (h 0)) (bytes-every xs (λ i. h (suc i)))

pub bytes-window : (s : List ℕ) (at n : ℕ) → Bytes s → Bytes (window s at n)
bytes-window s at n h i = by (leb (suc i) n) (leb-true (suc i) n) (leb-false (suc i) n) where
  by : (p : Bool) → (p ≡ true → i < n) → (p ≡ false → n < suc i) → byte_at (window s at n) i < 256
  by true yes-in out = rw (get_or-take n (drop at s) i 0 (yes-in refl), get_or-drop at s i 0) (h (at + i))
  by false yes-in out =
      let o = out refl in
      let l = length-take n (drop at s) in
      rw (get_or-eq_default (window s at n) 0 {n = i} (omega arith)) (omega arith)

small : (s : List ℕ) (at : ℕ) → Bytes s → ltb (number_at s at 2) 65536 ≡ true
small s at h = lt-ltb (number_at s at 2) 65536 (omega (arith, h at, h (at + 1)))

body-passes : (slot : List ℕ) → length slot ≡ slot_size → Bytes slot → sizes_ok (plan_in slot) ≡ true → body_ok (plan_in slot) ≡ true
body-passes slot e h z =
    let s = sized (plan_in slot) z in
    let d = length-drop body_from slot in
    let t = length-take-le (size_in slot - header_in slot) (drop body_from slot) (omega (arith, s.size)) in
    let n : header_in slot + length (window slot body_from (size_in slot - header_in slot)) ≡ size_in slot = omega (arith, s.header) in
    rw (eq-eqb (header_in slot + length (window slot body_from (size_in slot - header_in slot))) (size_in slot) n)
    (bytes-every (window slot body_from (size_in slot - header_in slot)) (bytes-window slot body_from (size_in slot - header_in slot) h))

-- the rules in the order in which the code asks for them
put-in-order : (r s b c f o : Bool) → r ≡ true → (s ≡ true → b ≡ true) → (f && ((r && s) && (b && (c && o)))) ≡ ((s && c) && (f && o))
put-in-order r true b true f o er eb = rw (er, eb refl)
put-in-order r true b false true o er eb = rw (er, eb refl)
put-in-order r true b false false o er eb = refl
put-in-order r false b c true o er eb = rw er
put-in-order r false b c false o er eb = refl

pub slot-asks : (slot : List ℕ) → length slot ≡ slot_size → Bytes slot
    → slot_ok slot ≡ ((sizes_ok (plan_in slot) && leb (count_in slot) max_steps) && keeps slot steps_from (count_in slot) (header_in slot) (size_in slot))
unfolding slot_ok plan_ok
slot-asks slot e h =
    let rt : rtypes_ok (plan_in slot) ≡ true = rw (small slot 0 h, small slot 2 h) in
    let l = gathered-length (step_at slot) 16 steps_from (count_in slot) in
    rw (eq-eqb (length slot) slot_size e, l)
    (put-in-order (rtypes_ok (plan_in slot)) (sizes_ok (plan_in slot)) (body_ok (plan_in slot)) (leb (count_in slot) max_steps) (all_flags slot steps_from (count_in slot)) _ rt (body-passes slot e h))

pub slot-wrong : (slot : List ℕ) → (length slot ≡ slot_size → ⊥) → false ≡ slot_ok slot
unfolding slot_ok
slot-wrong slot h = rw (ne_eqb (length slot) slot_size h)
