-- The default of a marked field holds the integer that the mapping calls the largest, and nothing else passes for it. Assumes nothing.
use Prim.Native.Nat.{ℕ, zero, suc, ◌+◌, ◌-◌, ◌*◌, ◌≤◌, ◌<◌}
use native.Mathlib.Omega.{arith}
use mathlib.Core.Path.{◌≡◌, refl, sym, ap, ◌∙◌}
use mathlib.Core.Bool.{Bool, true, false, cond, ◌&&◌}
use mathlib.Core.List.{List}
use borrow.Author.Tests.{eqb-true, eqb-false, eq-eqb, ne_eqb, ltb-true, ltb-false}
use lib.Dec.{eqb, ltb}
use lib.Pow.{pow-add}
use Rattle.lent.specs.Bytes.{byte_at, Bytes, number_at}
use Rattle.lent.specs.Scan.{gather, every, places}
use Rattle.lent.proofs.Scan.{and-true}
use Rattle.defaults.specs.Defaults.{largest_byte, is_largest}
use Rattle.mapping.specs.Mapping.{half, span, mid, integer_of, largest}
use Rattle.mapping.proofs.Halves.{half_pos, half_le}

-- two tests of equality that say the same
alike : (a b c d : ℕ) → (a ≡ b → c ≡ d) → (c ≡ d → a ≡ b) → eqb a b ≡ eqb c d
alike a b c d to back = go (eqb a b) (eqb-true a b) (eqb-false a b) where
  go : (p : Bool) → (p ≡ true → a ≡ b) → (p ≡ false → a ≡ b → ⊥) → p ≡ eqb c d
  go true y n = sym (eq-eqb c d (to (y refl)))
  go false y n = sym (ne_eqb c d (λ e. n refl (back e)))

-- a low byte and what stands above it
above : (b r t : ℕ) → b < 256 → (eqb b 255 && eqb (r + 1) t) ≡ eqb (b + 256 * r + 1) (256 * t)
above b r t small = go (eqb b 255) (eqb-true b 255) (eqb-false b 255) where
  go : (p : Bool) → (p ≡ true → b ≡ 255) → (p ≡ false → b ≡ 255 → ⊥) → (p && eqb (r + 1) t) ≡ eqb (b + 256 * r + 1) (256 * t)
  go true y n = let e = y refl in alike (r + 1) t (b + 256 * r + 1) (256 * t) (λ z. omega arith) (λ z. omega arith)
  go false y n = sym (ne_eqb (b + 256 * r + 1) (256 * t) (λ z. n refl (omega arith)))

-- how many numbers of n bytes go up to the largest: all of them, or half
abbrev up_to : Bool → ℕ → ℕ
up_to true n = half n
up_to false n = span n

half-next : (m : ℕ) → half (suc (suc m)) ≡ 256 * half (suc m)
unfolding half
half-next m =
    let e : 8 * suc (suc m) - 1 ≡ 8 + (8 * suc m - 1) = omega arith in
    rw e (pow-add 2 8 (8 * suc m - 1))

next : (signed : Bool) (m : ℕ) → up_to signed (suc (suc m)) ≡ 256 * up_to signed (suc m)
unfolding span
next true m = half-next m
next false m = let e = half-next m in omega arith

-- n bytes hold less than their span
small : (body : List ℕ) → Bytes body → (m at : ℕ) → number_at body at (suc m) < span (suc m)
unfolding span half
small body bytes zero at = omega (arith, bytes at)
small body bytes (suc m) at = let ih = small body bytes m (at + 1) in let e = next false m in omega (arith, bytes at)

-- ---- the number that is one less, as an integer

signed_top : (v t : ℕ) → v < t + t → t ≤ mid → (p : Bool) → (p ≡ true → v < t) → (p ≡ false → t ≤ v)
    → eqb (v + 1) t ≡ eqb (cond p (mid + v) (mid + v - (t + t))) (mid + t - 1)
signed_top v t s h true y n = let k = y refl in alike (v + 1) t (mid + v) (mid + t - 1) (λ z. omega arith) (λ z. omega arith)
signed_top v t s h false y n = let k = n refl in alike (v + 1) t (mid + v - (t + t)) (mid + t - 1) (λ z. omega arith) (λ z. omega arith)

top-is : (n : ℕ) (signed : Bool) (v : ℕ) → v < span n → 1 ≤ half n → half n ≤ mid → eqb (v + 1) (up_to signed n) ≡ eqb (integer_of signed n v) (largest signed n)
unfolding integer_of largest span
top-is n true v s l h = signed_top v (half n) s h (ltb v (half n)) (ltb-true v (half n)) (ltb-false v (half n))
top-is n false v s l h = alike (v + 1) (half n + half n) v (half n + half n - 1) (λ z. omega arith) (λ z. omega arith)

-- ---- byte by byte

module _ (body : List ℕ) (bytes : Bytes body) (at n : ℕ) (signed : Bool) where
  abbrev test : ℕ → Bool
  test i = eqb (byte_at body (at + i)) (largest_byte signed n i)

  low : (i : ℕ) → suc i < n → test i ≡ eqb (byte_at body (at + i)) 255
  low i h = rw (ne_eqb (suc i) n (λ e. omega arith)) (go signed) where
    go : (s : Bool) → eqb (byte_at body (at + i)) (cond (s && false) 127 255) ≡ eqb (byte_at body (at + i)) 255
    go true = refl
    go false = refl

  last : (i : ℕ) → n ≡ suc i → (test i && true) ≡ eqb (byte_at body (at + i) + 256 * 0 + 1) (up_to signed 1)
  unfolding half span
  last i e = rw (eq-eqb (suc i) n (sym e)) (go signed (byte_at body (at + i))) where
    go : (s : Bool) (b : ℕ) → (eqb b (cond (s && true) 127 255) && true) ≡ eqb (b + 256 * 0 + 1) (up_to s 1)
    go true b = and-true _ ∙ alike b 127 (b + 256 * 0 + 1) 128 (λ z. omega arith) (λ z. omega arith)
    go false b = and-true _ ∙ alike b 255 (b + 256 * 0 + 1) 256 (λ z. omega arith) (λ z. omega arith)

  from : (i m : ℕ) → n ≡ i + suc m → every test (places 1 i (suc m)) ≡ eqb (number_at body (at + i) (suc m) + 1) (up_to signed (suc m))
  unfolding gather every
  from i zero e = last i (omega arith)
  from i (suc m) e =
      let f : at + (i + 1) ≡ at + i + 1 = omega arith in
      let ih : every test (places 1 (i + 1) (suc m)) ≡ eqb (number_at body (at + i + 1) (suc m) + 1) (up_to signed (suc m)) =
      from (i + 1) m (omega arith) ∙ ap (λ (k : ℕ). eqb (number_at body k (suc m) + 1) (up_to signed (suc m))) f in
      rw (low i (omega arith), ih, next signed m) (above (byte_at body (at + i)) (number_at body (at + i + 1) (suc m)) (up_to signed (suc m)) (bytes (at + i)))

-- the bytes are those of the largest integer exactly when the integer that they hold is the largest
pub largest-is : (body : List ℕ) → Bytes body → (at n : ℕ) (signed : Bool) → 1 ≤ n → n ≤ 8
    → is_largest body at n signed ≡ eqb (integer_of signed n (number_at body at n)) (largest signed n)
largest-is body bytes at zero signed l h = absurd (let z : ⊥ = omega arith in z)
largest-is body bytes at (suc m) signed l h =
    let z : at + 0 ≡ at = omega arith in
    from body bytes at (suc m) signed 0 m (omega arith)
    ∙ ap (λ (k : ℕ). eqb (number_at body k (suc m) + 1) (up_to signed (suc m))) z
    ∙ top-is (suc m) signed (number_at body at (suc m)) (small body bytes m at) (half_pos (suc m)) (half_le (suc m) h)
