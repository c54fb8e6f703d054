-- What is taken out of a text into a slot of zeros, and what the reader makes of it. Assumes nothing.
use mathlib.Core.Path.{◌≡◌, refl, sym, ◌∙◌}
use mathlib.Core.Bool.{Bool, true, false, cond, ◌&&◌, false≢true}
use mathlib.Core.List.{List, [], ◌∷◌, ◌++◌, append_assoc}
use Prim.Native.Nat.{ℕ, zero, suc, ◌+◌, ◌-◌, ◌*◌, ◌%◌, ◌≤◌, ◌<◌}
use native.Mathlib.Omega.{arith}
use lib.ListN.{length, drop, set, replicate, length-append, length-replicate, length-set}
use lib.Seq.{sets, set-append_left}
use lib.Dec.{eqb, leb}
use borrow.Author.Tests.{le-leb, lt-leb, leb-true}
use Rattle.limits.specs.Limits.{max_bytes, max_steps}
use Rattle.limits.specs.declared.refusal.Refusal.TheVariants.{BadPlan, NoRoom}
use Rattle.lent.specs.Bytes.{byte_at, number_at, window}
use Rattle.lent.specs.Scan.{alike}
use Rattle.lent.proofs.Scan.{both}
use Rattle.lent.proofs.Stored.{get_in, whole}
use Rattle.slot.specs.Slot.{slot_size, steps_from, body_from, header_in, size_in, count_in, plan_in, slot_ok, packed_steps, head_of, slot_of}
use Rattle.slot.proofs.Kept.{Kept, kept, kept_slot}
use Rattle.slot.proofs.Packing.{steps-size}
use Rattle.slot.proofs.Unpacked.{slot-long, plan-in, slot-passes}
use Rattle.decimal.specs.Decimal.{is_digit, pushed, number, pasts, nth}
use Rattle.decimal.specs.Hex.{unhex}
use Rattle.decimal.proofs.Nibbles.{unhex-length}
use Rattle.plan_text.specs.Writing.{text_in}
use Rattle.plan_take.specs.Lenient.{numbers_as, steps_as, numbers_from, body_text_from, steps_text_from, header_as, size_as, count_as, plan_as, has_room}
use Rattle.plan_read.specs.Reading.{accepts}
use Rattle.plan_read.specs.Reading.{read_of, after_reading}
use Rattle.std.specs.Prelude.{Ok, Err}
use Rattle.plan_take.proofs.Drawn.{drawn-length}
use Rattle.plan_read.proofs.Theorems.{alike_self, alike_same, only, accepted}

-- ---- stores into zeros

sets-cons : (x : ℕ) (l vs : List ℕ) (i : ℕ) → sets (x ∷ l) (suc i) vs ≡ x ∷ sets l i vs
sets-cons x l [] i = refl
sets-cons x l (v ∷ vs) i = sets-cons x (set l i v) vs (suc i)

sets_behind : (xs ys vs : List ℕ) (i at : ℕ) → at ≡ length xs + i → sets (xs ++ ys) at vs ≡ xs ++ sets ys i vs
sets_behind [] ys vs i at e = let z : at ≡ i = omega arith in rw z
sets_behind (x ∷ xs) ys vs i at e =
    let z : at ≡ suc (length xs + i) = omega arith in
    rw (z, sets-cons x (xs ++ ys) vs (length xs + i), sets_behind xs ys vs i (length xs + i) refl)

sets-before : (xs ys vs : List ℕ) (i : ℕ) → i + length vs ≤ length xs → sets (xs ++ ys) i vs ≡ sets xs i vs ++ ys
sets-before xs ys [] i h = refl
sets-before xs ys (v ∷ vs) i h =
    let lt : i < length xs = omega arith in
    rw (set-append_left xs ys i v lt) (sets-before (set xs i v) ys vs (suc i) (simp length-set (omega arith)))

sets-zeros : (n : ℕ) (vs : List ℕ) → length vs ≤ n → sets (replicate n 0) 0 vs ≡ vs ++ replicate (n - length vs) 0
sets-zeros n [] h = let e : n - 0 ≡ n = omega arith in rw e
sets-zeros zero (v ∷ vs) h = absurd (let z : ⊥ = omega arith in z)
sets-zeros (suc n) (v ∷ vs) h =
    let e : suc n - suc (length vs) ≡ n - length vs = omega arith in
    rw (sets-cons v (replicate n 0) vs 0, sets-zeros n vs (omega arith), e)

-- zeros
abbrev zeros : ℕ → List ℕ
zeros n = replicate n 0

zeros-add : (m n : ℕ) → zeros (m + n) ≡ zeros m ++ zeros n
zeros-add zero n = let e : 0 + n ≡ n = omega arith in rw e
zeros-add (suc m) n = let e : suc m + n ≡ suc (m + n) = omega arith in rw (e, zeros-add m n)

module _ (head steps body : List ℕ) (m n : ℕ) (ls : length steps ≤ m) (lb : length body ≤ n) where
  laid : sets (sets (head ++ (zeros m ++ zeros n)) (length head + m) body) (length head) steps
      ≡ head ++ ((steps ++ zeros (m - length steps)) ++ (body ++ zeros (n - length body)))
  laid =
      let lm = length-replicate {A = ℕ} m 0 in
      let z : m ≡ length (zeros m) + 0 = omega arith in
      let one = sets_behind head (zeros m ++ zeros n) body m (length head + m) refl in
      let two = sets_behind (zeros m) (zeros n) body 0 m z in
      let three = sets_behind head (zeros m ++ (body ++ zeros (n - length body))) steps 0 (length head) (omega arith) in
      let four = sets-before (zeros m) (body ++ zeros (n - length body)) steps 0 (omega arith) in
      rw (one, two, sets-zeros n body lb, three, four, sets-zeros m steps ls)

-- numbers stored into zeros, with two zeros behind them
numbered : (nums : List ℕ) (m n k : ℕ) → k ≡ length nums + (2 + (m + n)) → sets (zeros k) 0 nums ≡ (nums ++ (0 ∷ 0 ∷ [])) ++ (zeros m ++ zeros n)
numbered nums m n k e =
    let r : k - length nums ≡ suc (suc (m + n)) = omega arith in
    sets-zeros k nums (omega arith) ∙ rw (r, zeros-add m n) (sym (append_assoc nums (0 ∷ 0 ∷ []) (zeros m ++ zeros n)))

-- ---- the numbers read back out of the slot

pushed_most : (v c : ℕ) → pushed v c ≤ 65535
unfolding pushed
pushed_most v c = by (leb (v * 10 + c % 16) 65535) (leb-true (v * 10 + c % 16) 65535) where
  by : (b : Bool) → (b ≡ true → v * 10 + c % 16 ≤ 65535) → cond b (v * 10 + c % 16) 65535 ≤ 65535
  by true f = f refl
  by false f = omega arith

number-most : (v : ℕ) (l : List ℕ) → v ≤ 65535 → number v l ≤ 65535
unfolding number
number-most v [] h = h
number-most v (c ∷ l) h = go (is_digit c) (number-most (pushed v c) l (pushed_most v c)) where
  go : (b : Bool) → number (pushed v c) l ≤ 65535 → cond b (number (pushed v c) l) v ≤ 65535
  go true z = z
  go false z = h

stored-number : (d vs : List ℕ) (j v : ℕ) → length vs ≤ length d → j + 2 ≤ length vs → number_at vs j 2 ≡ v → number_at (sets d 0 vs) j 2 ≡ v
stored-number d vs j v h l e =
    let a : byte_at (sets d 0 vs) (0 + j) ≡ byte_at vs j = get_in vs d 0 j (omega arith) (omega arith) in
    let b : byte_at (sets d 0 vs) (0 + (j + 1)) ≡ byte_at vs (j + 1) = get_in vs d 0 (j + 1) (omega arith) (omega arith) in
    let x : 0 + j ≡ j = omega arith in
    let y : 0 + (j + 1) ≡ j + 1 = omega arith in
    let a' = rw x at a in
    let b' = rw y at b in
    rw (a', b') e

module _ (d l : List ℕ) (h : 14 ≤ length d) where
  pub header-stored : header_in (sets d 0 (numbers_as 7 l)) ≡ nth 3 l
  unfolding numbers_as pasts
  header-stored = stored-number d (numbers_as 7 l) 6 (nth 3 l) h (omega arith) (let z = number-most 0 (pasts 3 l) (omega arith) in omega arith)

  pub size-stored : size_in (sets d 0 (numbers_as 7 l)) ≡ nth 5 l
  unfolding numbers_as pasts
  size-stored = stored-number d (numbers_as 7 l) 10 (nth 5 l) h (omega arith) (let z = number-most 0 (pasts 5 l) (omega arith) in omega arith)

  pub count-stored : count_in (sets d 0 (numbers_as 7 l)) ≡ nth 6 l
  unfolding numbers_as pasts
  count-stored = stored-number d (numbers_as 7 l) 12 (nth 6 l) h (omega arith) (let z = number-most 0 (pasts 6 l) (omega arith) in omega arith)

-- ---- the candidate is the slot of the plan that the text would be of

head-drawn : (t : List ℕ) → numbers_as 7 (numbers_from t) ++ (0 ∷ 0 ∷ []) ≡ head_of (plan_as t)
unfolding numbers_as plan_as pasts
head-drawn t = rw (drawn-length (count_as t) (steps_text_from t))

fourteen : (l : List ℕ) → length (numbers_as 7 l) ≡ 14
unfolding numbers_as
fourteen l = refl

pub candidate-is : (t : List ℕ) → has_room t ≡ true
    → sets (sets (sets (replicate slot_size 0) 0 (numbers_as 7 (numbers_from t))) body_from (unhex (size_as t - header_as t) (body_text_from t))) steps_from (packed_steps (steps_as (count_as t) (steps_text_from t)))
    ≡ slot_of (plan_as t)
unfolding slot_of plan_as
candidate-is t room =
    let r = both (leb (size_as t) max_bytes) (leb (count_as t) max_steps) room in
    let s : size_as t ≤ max_bytes = leb-true (size_as t) max_bytes r.0 in
    let c : count_as t ≤ max_steps = leb-true (count_as t) max_steps r.1 in
    let lb = unhex-length (size_as t - header_as t) (body_text_from t) in
    let lc = drawn-length (count_as t) (steps_text_from t) in
    let lp = steps-size (steps_as (count_as t) (steps_text_from t)) in
    let ln = fourteen (numbers_from t) in
    let lh : length (numbers_as 7 (numbers_from t) ++ (0 ∷ 0 ∷ [])) ≡ 16 = length-append (numbers_as 7 (numbers_from t)) (0 ∷ 0 ∷ []) ∙ omega arith in
    let z = numbered (numbers_as 7 (numbers_from t)) (16 * max_steps) max_bytes slot_size (omega arith) in
    let w = laid (numbers_as 7 (numbers_from t) ++ (0 ∷ 0 ∷ [])) (packed_steps (steps_as (count_as t) (steps_text_from t))) (unhex (size_as t - header_as t) (body_text_from t)) (16 * max_steps) max_bytes (omega arith) (omega arith) in
    rw z ((rw lh at w) ∙ rw (head-drawn t))

-- ---- the reader's answers

room-there : (t : List ℕ) → Kept (plan_as t) → has_room t ≡ true
unfolding plan_as
room-there t k = let l = drawn-length (count_as t) (steps_text_from t) in rw (le-leb (size_as t) max_bytes k.sizes.size, le-leb (count_as t) max_steps (omega (arith, k.few)))

no_room : (t : List ℕ) → has_room t ≡ false → accepts t ≡ false
no_room t f = go (accepts t) refl where
  go : (b : Bool) → accepts t ≡ b → b ≡ false
  go false e = refl
  go true e = absurd (false≢true (sym f ∙ room-there t (kept (plan_as t) (only t e).keeps)))

-- the rules and the comparison, asked of the candidate, say whether the text is accepted
pub judged : (t slot : List ℕ) → slot ≡ slot_of (plan_as t) → (slot_ok slot && alike eqb (text_in slot) t) ≡ accepts t
judged t slot e = go (accepts t) (slot_ok slot && alike eqb (text_in slot) t) refl refl where
  fine : accepts t ≡ true → (slot_ok slot && alike eqb (text_in slot) t) ≡ true
  fine a =
      let w = only t a in
      rw (e, slot-passes (plan_as t) w.keeps, plan-in (plan_as t) w.keeps, w.written) (alike_self t)

  own : (slot_ok slot && alike eqb (text_in slot) t) ≡ true → accepts t ≡ true
  own j =
      let s = both (slot_ok slot) (alike eqb (text_in slot) t) j in
      accepted t (plan_in slot) (record { keeps = (kept_slot slot s.0).valid; written = alike_same (text_in slot) t s.1 })

  go : (a j : Bool) → accepts t ≡ a → (slot_ok slot && alike eqb (text_in slot) t) ≡ j → j ≡ a
  go true j ea ej = sym ej ∙ fine ea
  go false true ea ej = absurd (false≢true (sym ea ∙ own ej))
  go false false ea ej = refl

module _ (t slot : List ℕ) where
  pub says-short : length slot < slot_size → (Err NoRoom ≡ read_of t slot) × (slot ≡ after_reading t slot)
  unfolding read_of after_reading
  says-short h = (rw (lt-leb slot_size (length slot) h), rw (lt-leb slot_size (length slot) h))

  module _ (h : slot_size ≤ length slot) where
    pub says-bad : accepts t ≡ false → (Err BadPlan ≡ read_of t slot) × (slot ≡ after_reading t slot)
    unfolding read_of after_reading
    says-bad a = (rw (le-leb slot_size (length slot) h, a), rw (le-leb slot_size (length slot) h, a))

    pub says-crowded : has_room t ≡ false → (Err BadPlan ≡ read_of t slot) × (slot ≡ after_reading t slot)
    says-crowded f = says-bad (no_room t f)

    pub says-read : (new c₂ : List ℕ) → accepts t ≡ true → c₂ ≡ slot_of (plan_as t) → new ≡ sets slot 0 (window c₂ 0 slot_size) → (Ok tt ≡ read_of t slot) × (new ≡ after_reading t slot)
    unfolding read_of after_reading
    says-read new c₂ a e w =
        let l = slot-long (plan_as t) (only t a).keeps in
        let z : window c₂ 0 slot_size ≡ slot_of (plan_as t) = rw e (whole (slot_of (plan_as t)) slot_size (omega arith)) in
        (rw (le-leb slot_size (length slot) h, a), w ∙ rw (le-leb slot_size (length slot) h, a, z))

-- ---- what the slot holds as the reader goes on

module _ (t c₁ : List ℕ) (e₁ : c₁ ≡ sets (replicate slot_size 0) 0 (numbers_as 7 (numbers_from t))) where
  wide : 14 ≤ length (replicate {A = ℕ} slot_size 0)
  wide = rw (length-replicate {A = ℕ} slot_size 0) (omega arith)

  size_is : size_in c₁ ≡ size_as t
  size_is = rw e₁ (size-stored (replicate slot_size 0) (numbers_from t) wide)

  header_is : header_in c₁ ≡ header_as t
  header_is = rw e₁ (header-stored (replicate slot_size 0) (numbers_from t) wide)

  count-is : count_in c₁ ≡ count_as t
  count-is = rw e₁ (count-stored (replicate slot_size 0) (numbers_from t) wide)

  pub room-told : (r : Bool) → r ≡ (leb (size_in c₁) max_bytes && leb (count_in c₁) max_steps) → r ≡ has_room t
  room-told r e = e ∙ rw (size_is, count-is)

  module _ (n k : ℕ) (room : has_room t ≡ true) (en : n ≡ size_in c₁ - header_in c₁) (ek : k ≡ count_in c₁) where
    n-is : n ≡ size_as t - header_as t
    n-is = en ∙ rw (size_is, header_is)

    k-is : k ≡ count_as t
    k-is = ek ∙ count-is

    pub bounds : (n ≤ max_bytes) × (k ≤ max_steps)
    bounds =
        let r = both (leb (size_as t) max_bytes) (leb (count_as t) max_steps) room in
        let s = leb-true (size_as t) max_bytes r.0 in
        let c = leb-true (count_as t) max_steps r.1 in
        (omega (arith, n-is), omega (arith, k-is))

    pub drawn : (c₂ : List ℕ) (behind : ℕ) → drop behind t ≡ pasts 7 (numbers_from t)
        → c₂ ≡ sets (sets c₁ body_from (unhex n (drop 5 (drop behind t)))) steps_from (packed_steps (steps_as k (drop (2 * n + 1) (drop 5 (drop behind t)))))
        → c₂ ≡ slot_of (plan_as t)
    drawn c₂ behind eb e = e ∙ rw (e₁, eb, n-is, k-is) (candidate-is t room)
