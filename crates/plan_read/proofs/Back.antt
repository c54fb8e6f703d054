-- What the writer writes is read back to the plan. Assumes nothing.
use mathlib.Core.Path.{◌≡◌, refl, ap, ◌∙◌}
use mathlib.Core.Bool.{Bool, true, false}
use mathlib.Core.List.{List, [], ◌∷◌, ◌++◌, append_assoc}
use Prim.Native.Nat.{ℕ, ◌+◌, ◌-◌, ◌*◌, ◌≤◌}
use native.Mathlib.Omega.{arith}
use lib.ListN.{length, drop}
use lib.Seq.{drop-drop}
use lib.Dec.{eqb}
use Rattle.lent.specs.Scan.{every}
use Rattle.step.specs.declared.Op.{Op}
use Rattle.step.specs.declared.Op.TheVariants.{Copy, Int}
use Rattle.step.specs.declared.Step.{Step}
use Rattle.slot.specs.Plan.{Plan, is_byte, plan_ok}
use Rattle.slot.proofs.Kept.{Low, AllLow, kept, all-low}
use Rattle.decimal.specs.Decimal.{cell, number, past, pasts, nth}
use Rattle.decimal.specs.Hex.{hex, unhex}
use Rattle.decimal.proofs.Numbers.{number-back, past_back}
use Rattle.decimal.proofs.Nibbles.{hex-back, hex-past}
use Rattle.plan_text.specs.Text.{tab, newline, sign_of, mark_of, body_line, step_line, step_lines, text_of}
use Rattle.plan_text.proofs.Laid.{head-starts}
use Rattle.plan_take.specs.Lenient.{step_as, step_past, steps_as, plan_as}

-- ---- a cell

tab-number : (n : ℕ) (l : List ℕ) → n ≤ 65535 → number 0 (cell n tab ++ l) ≡ n
tab-number n l h = number-back n tab l refl h

tab-past : (n : ℕ) (l : List ℕ) → past (cell n tab ++ l) ≡ l
tab-past n l = past_back n tab l refl

end-number : (n : ℕ) (l : List ℕ) → n ≤ 65535 → number 0 (cell n newline ++ l) ≡ n
end-number n l h = number-back n newline l refl h

end-past : (n : ℕ) (l : List ℕ) → past (cell n newline ++ l) ≡ l
end-past n l = past_back n newline l refl

-- ---- a step

sign-back : (s : Bool) → eqb (sign_of s) 115 ≡ s
sign-back true = refl
sign-back false = refl

mark-back : (s : Bool) → eqb (mark_of s) 49 ≡ s
mark-back true = refl
mark-back false = refl

step_back : (op : Op) (l : List ℕ) → Low op → step_as (step_line op ++ l) ≡ record { op = op }
unfolding step_as step_line pasts Low
step_back (Copy a b n) l h =
    simp append_assoc (rw (tab-number a _ h.0, tab-past a, tab-number b _ h.1, tab-past b, end-number n l h.2))
step_back (Int a b n m s k) l h =
    simp append_assoc (rw (tab-number a _ h.0, tab-past a, tab-number b _ h.1, tab-past b, tab-number n _ h.2, tab-past n, tab-number m _ h.3, tab-past m, sign-back s, mark-back k))

step-past-back : (op : Op) (l : List ℕ) → step_past (step_line op ++ l) ≡ l
unfolding step_past step_line pasts
step-past-back (Copy a b n) l = simp append_assoc (rw (tab-past a, tab-past b, end-past n))
step-past-back (Int a b n m s k) l = simp append_assoc (rw (tab-past a, tab-past b, tab-past n, tab-past m))

-- ---- the steps

steps_back : (ss : List Step) → AllLow ss → steps_as (length ss) (step_lines ss) ≡ ss
unfolding steps_as step_lines AllLow
steps_back [] h = refl
steps_back (s ∷ ss) h = rw (step_back s.op (step_lines ss) h.0, step-past-back s.op (step_lines ss), steps_back ss h.1)

-- ---- the first line

module _ (n0 n1 n2 n3 n4 n5 n6 : ℕ) (l : List ℕ) (h0 : n0 ≤ 65535) (h1 : n1 ≤ 65535) (h2 : n2 ≤ 65535) (h3 : n3 ≤ 65535) (h4 : n4 ≤ 65535) (h5 : n5 ≤ 65535) (h6 : n6 ≤ 65535) where
  unfoldable nums : List ℕ
  nums = cell n0 tab ++ (cell n1 tab ++ (cell n2 tab ++ (cell n3 tab ++ (cell n4 tab ++ (cell n5 tab ++ (cell n6 newline ++ l))))))

  b0 : nth 0 nums ≡ n0
  unfolding nums pasts
  b0 = tab-number n0 _ h0

  b1 : nth 1 nums ≡ n1
  unfolding nums pasts
  b1 = rw (tab-past n0) (tab-number n1 _ h1)

  b2 : nth 2 nums ≡ n2
  unfolding nums pasts
  b2 = rw (tab-past n0, tab-past n1) (tab-number n2 _ h2)

  b3 : nth 3 nums ≡ n3
  unfolding nums pasts
  b3 = rw (tab-past n0, tab-past n1, tab-past n2) (tab-number n3 _ h3)

  b4 : nth 4 nums ≡ n4
  unfolding nums pasts
  b4 = rw (tab-past n0, tab-past n1, tab-past n2, tab-past n3) (tab-number n4 _ h4)

  b5 : nth 5 nums ≡ n5
  unfolding nums pasts
  b5 = rw (tab-past n0, tab-past n1, tab-past n2, tab-past n3, tab-past n4) (tab-number n5 _ h5)

  b6 : nth 6 nums ≡ n6
  unfolding nums pasts
  b6 = rw (tab-past n0, tab-past n1, tab-past n2, tab-past n3, tab-past n4, tab-past n5) (end-number n6 _ h6)

  b7 : pasts 7 nums ≡ l
  unfolding nums pasts
  b7 = rw (tab-past n0, tab-past n1, tab-past n2, tab-past n3, tab-past n4, tab-past n5, end-past n6)

  -- a text whose numbers are these, and whose body and steps are read as bs and ss
  from-numbers : (t bs : List ℕ) (ss : List Step) → drop 7 t ≡ nums → unhex (n5 - n3) (drop 5 l) ≡ bs → steps_as n6 (drop (2 * (n5 - n3) + 1) (drop 5 l)) ≡ ss
      → plan_as t ≡ record { src_rtype = n0; rtype = n1; src_base = n2; header = n3; base = n4; size = n5; body = bs; steps = ss }
  unfolding plan_as
  from-numbers t bs ss e eb es = rw (e, b0, b1, b2, b3, b4, b5, b6, b7, eb, es)

seven : (a b c d e f g h : List ℕ) → (a ++ (b ++ (c ++ (d ++ (e ++ (f ++ g)))))) ++ h ≡ a ++ (b ++ (c ++ (d ++ (e ++ (f ++ (g ++ h))))))
seven a b c d e f g h = simp append_assoc

-- ---- the body

body_back : (n : ℕ) (body l : List ℕ) → length body ≡ n → every is_byte body ≡ true → unhex n (drop 5 (body_line body ++ l)) ≡ body
unfolding body_line
body_back n body l e ok = rw (← e, append_assoc (hex body) (newline ∷ []) l) (hex-back body (newline ∷ l) ok)

body-past : (n : ℕ) (body l : List ℕ) → length body ≡ n → drop (2 * n + 1) (drop 5 (body_line body ++ l)) ≡ l
unfolding body_line
body-past n body l e =
    rw (← e, append_assoc (hex body) (newline ∷ []) l, ← drop-drop 1 (2 * length body) (hex body ++ (newline ∷ l)), hex-past body (newline ∷ l))

-- ---- the plan

pub plan-back : (p : Plan) → plan_ok p ≡ true → plan_as (text_of p) ≡ p
unfolding text_of nums
plan-back p ok =
    let k = kept p ok in
    let n : length p.body ≡ p.size - p.header = omega (arith, k.whole) in
    let rest = body_line p.body ++ step_lines p.steps in
    from-numbers p.src_rtype p.rtype p.src_base p.header p.base p.size (length p.steps) rest
    (omega (arith, k.src_rtype)) (omega (arith, k.rtype)) (omega (arith, k.sizes.src_base)) (omega (arith, k.sizes.header, k.sizes.size)) (omega (arith, k.sizes.base, k.sizes.size)) (omega (arith, k.sizes.size)) (omega (arith, k.few))
    (text_of p) p.body p.steps
    (ap (λ (l : List ℕ). drop 7 (l ++ rest)) (head-starts p.src_rtype p.rtype p.src_base p.header p.base p.size (length p.steps))
    ∙ seven (cell p.src_rtype tab) (cell p.rtype tab) (cell p.src_base tab) (cell p.header tab) (cell p.base tab) (cell p.size tab) (cell (length p.steps) newline) rest)
    (body_back (p.size - p.header) p.body (step_lines p.steps) n k.bytes)
    (rw (body-past (p.size - p.header) p.body (step_lines p.steps) n) (steps_back p.steps (all-low p.steps p.header p.size k.sizes.size k.steps)))
