-- `map_int`, case by case, over any two numbers of bytes. Assumes nothing.
use mathlib.Core.Path.{◌≡◌, refl, sym, ap, ◌∙◌}
use mathlib.Core.Bool.{Bool, true, false, ◌&&◌, ◌||◌, and-false}
use Prim.Native.Nat.{ℕ, ◌+◌, ◌-◌, ◌^◌, ◌≤◌, ◌<◌}
use mathlib.Core.Logic.{◌⊎◌, inl, inr}
use native.Mathlib.Omega.{arith}
use lib.Dec.{leb, eqb}
use borrow.Author.Tests.{lt-ltb, le-ltb, le-leb, lt-leb, leb-true, leb-false, eq-eqb, ne_eqb, eqb-false}
use Rattle.mapping.specs.Mapping.{half, span, mid, integer_of, least, largest, number_of, mapped, map_int}

or-last : (a b : Bool) → (a || (b || true)) ≡ true
or-last true b = refl
or-last false true = refl
or-last false false = refl

or-mid : (a b : Bool) → (a || (true || b)) ≡ true
or-mid true b = refl
or-mid false b = refl

-- ---- the rule, for both signs
module _ (n m : ℕ) (s k : Bool) (p : ℕ) where
  below : p < least s m → mapped n m s k p ≡ largest s m
  unfolding mapped
  below h = simp (lt-ltb p (least s m) h, or-mid)

  above : largest s m < p → mapped n m s k p ≡ largest s m
  unfolding mapped
  above h = simp (lt-ltb (largest s m) p h, or-last)

  top : k ≡ true → p ≡ largest s n → mapped n m s k p ≡ largest s m
  unfolding mapped
  top e h = simp (e, eq-eqb p (largest s n) h)

  inside : (k && eqb p (largest s n)) ≡ false → least s m ≤ p → p ≤ largest s m → mapped n m s k p ≡ p
  unfolding mapped
  inside e l h = simp (e, le-ltb p (least s m) l, le-ltb (largest s m) p h)

-- ---- the cases of the code
-- what the code knows of the two halves a and b and of the number v
pub record Halves (n m : ℕ) (k : Bool) (v a b : ℕ) : Type 0 where
  pub ea : a ≡ half n
  pub eb : b ≡ half m
  pub la : a ≤ 2 ^ 63
  pub pa : 1 ≤ a
  pub lb : b ≤ 2 ^ 63
  pub pb : 1 ≤ b
  pub fit : v < a + a

module _ {n m : ℕ} {k : Bool} {v a b : ℕ} (h· : Halves n m k v a b) where
  ea : a ≡ half n
  ea = h·.ea

  eb : b ≡ half m
  eb = h·.eb

  -- signed, below zero
  neg-integer : a ≤ v → integer_of true n v ≡ mid + v - (a + a)
  unfolding integer_of span
  neg-integer h = rw (← ea) (simp (le-ltb v a h))

  -- signed, not below zero
  pos-integer : v < a → integer_of true n v ≡ mid + v
  unfolding integer_of span
  pos-integer h = rw (← ea) (simp (lt-ltb v a h))

  largest-number : number_of true m (largest true m) ≡ b - 1
  unfolding number_of largest span
  largest-number = rw (← eb) (simp (le-leb mid (mid + b - 1) (omega arith)) (omega arith))

  pub neg-out : {s : Bool} → s ≡ true → a ≤ v → v - a + b < a → b - 1 ≡ map_int n m s k v
  unfolding map_int least
  neg-out e h o = rw (e, neg-integer h, below n m true k (mid + v - (a + a)) (rw (← eb) (omega arith)), largest-number)

  pub neg-in : {s : Bool} → s ≡ true → a ≤ v → a ≤ v - a + b → v - a + b - a + b ≡ map_int n m s k v
  unfolding map_int least largest number_of span
  neg-in e h o =
      rw (
        e,
        neg-integer h,
        inside n m true k (mid + v - (a + a)) (simp (ne_eqb (mid + v - (a + a)) (mid + half n - 1) (rw (← ea) (λ z. omega arith)), and-false)) (rw (← eb) (omega arith)) (rw (← eb) (omega arith)),
      )
      (rw (← eb) (simp (lt-leb mid (mid + v - (a + a)) (omega arith)) (omega arith)))

  pub pos-top : {s : Bool} → s ≡ true → k ≡ true → v < a → v ≡ a - 1 → b - 1 ≡ map_int n m s k v
  unfolding map_int largest
  pos-top e t h o = rw (e, pos-integer h, top n m true k (mid + v) t (rw (← ea) (omega arith)), largest-number)

  pub pos-out : {s : Bool} → s ≡ true → v < a → b ≤ v → b - 1 ≡ map_int n m s k v
  unfolding map_int largest
  pos-out e h o = rw (e, pos-integer h, above n m true k (mid + v) (rw (← eb) (omega arith)), largest-number)

  pub pos-in : {s : Bool} → s ≡ true → v < a → v < b → (k && eqb v (a - 1)) ≡ false → v ≡ map_int n m s k v
  unfolding map_int least largest number_of
  pos-in e h o f =
      rw (e, pos-integer h, inside n m true k (mid + v) (rw (← ea) (moved k (mid + v) (mid + a - 1) f)) (rw (← eb) (omega arith)) (rw (← eb) (omega arith)))
      (simp (le-leb mid (mid + v) (omega arith)) (omega arith))
    where
      moved : (t : Bool) (p q : ℕ) → (t && eqb v (a - 1)) ≡ false → (t && eqb (mid + v) (mid + a - 1)) ≡ false
      moved false p q g = refl
      moved true p q g = ne_eqb (mid + v) (mid + a - 1) (λ z. eqb-false v (a - 1) g (omega arith))

  -- unsigned
  pub u_top : {s : Bool} → s ≡ false → k ≡ true → v ≡ a - 1 + a → b - 1 + b ≡ map_int n m s k v
  unfolding map_int integer_of number_of largest span
  u_top e t o = rw (e, top n m false k v t (rw (← ea) (omega arith))) (rw (← eb) (omega arith))

  pub u-out : {s : Bool} → s ≡ false → b - 1 + b < v → b - 1 + b ≡ map_int n m s k v
  unfolding map_int integer_of number_of largest span
  u-out e o = rw (e, above n m false k v (rw (← eb) (omega arith))) (rw (← eb) (omega arith))

  pub u-in : {s : Bool} → s ≡ false → v ≤ b - 1 + b → (k && eqb v (a - 1 + a)) ≡ false → v ≡ map_int n m s k v
  unfolding map_int integer_of number_of largest least span
  u-in e o f = rw (e, inside n m false k v (rw (← ea) (moved k f)) (omega arith) (rw (← eb) (omega arith)))
    where
      moved : (t : Bool) → (t && eqb v (a - 1 + a)) ≡ false → (t && eqb v (a + a - 1)) ≡ false
      moved false g = refl
      moved true g = ne_eqb v (a + a - 1) (λ z. eqb-false v (a - 1 + a) g (omega arith))

pub unmarked : (k t : Bool) → (t ≡ false) ⊎ (k ≡ false) → (k && t) ≡ false
unmarked k t (inl h) = simp (h, and-false)
unmarked k t (inr h) = simp h

turned : {n m v a b : ℕ} → Halves n m false v a b → (x : ℕ) → x < b + b → Halves m n false x b a
turned h x l = record { ea = h.eb; eb = h.ea; la = h.lb; pa = h.pb; lb = h.la; pb = h.pa; fit = l }

-- an integer that is widened without a mark is the same integer
pub same-integer : (s : Bool) (n m v a b : ℕ) → Halves n m false v a b → a ≤ b → integer_of s m (map_int n m s false v) ≡ integer_of s n v
unfolding integer_of
same-integer false n m v a b h w = sym (u-in h refl (omega arith) refl)
same-integer true n m v a b h w = by (leb a v) (leb-true a v) (leb-false a v) where
  by : (p : Bool) → (p ≡ true → a ≤ v) → (p ≡ false → v < a) → integer_of true m (map_int n m true false v) ≡ integer_of true n v
  by true below-zero other =
      let l = below-zero refl in
      ap (integer_of true m) (sym (neg-in h refl l (omega arith)))
      ∙ (neg-integer (turned h (v - a + b - a + b) (omega arith)) (omega arith)
      ∙ ((let e : mid + (v - a + b - a + b) - (b + b) ≡ mid + v - (a + a) = omega arith in e) ∙ sym (neg-integer h l)))
  by false below-zero other =
      let l = other refl in
      ap (integer_of true m) (sym (pos-in h refl l (omega arith) refl))
      ∙ (pos-integer (turned h v (omega arith)) (omega arith) ∙ sym (pos-integer h l))
