-- What is read of a mapped integer that was stored is the integer that the mapping gives. Assumes nothing.
use Prim.Native.Nat.{ℕ, zero, suc, ◌+◌, ◌-◌, ◌*◌, ◌/◌, ◌%◌, ◌^◌, ◌≤◌, ◌<◌}
use native.Mathlib.Nat.{pow-succ'}
use native.Mathlib.Omega.{arith}
use mathlib.Core.Path.{◌≡◌, refl, ◌∙◌}
use mathlib.Core.Bool.{Bool, true, false, cond, ◌&&◌, ◌||◌}
use mathlib.Core.List.{List, ◌∷◌}
use borrow.Author.Tests.{ltb-false, leb-true, leb-false, lt-ltb, le-ltb}
use lib.Dec.{leb, ltb, eqb}
use Rattle.lent.specs.Bytes.{byte_at, number_at, bytes_of}
use Rattle.catalogue.specs.Catalogue.{is_width}
use Rattle.mapping.specs.Mapping.{half, span, mid, integer_of, least, largest, number_of, mapped, map_int}
use Rattle.demand.proofs.Types.{width-cases}

-- ---- the bytes of a number hold it

number-next : (x : ℕ) (s : List ℕ) (at n : ℕ) → number_at (x ∷ s) (at + 1) n ≡ number_at s at n
number-next x s at zero = refl
number-next x s at (suc n) =
    let b : byte_at (x ∷ s) (at + 1) ≡ byte_at s at = let e : at + 1 ≡ suc at = omega arith in rw e in
    rw (b, number-next x s (at + 1) n)

pub bytes-number : (n v : ℕ) → v < 256 ^ n → number_at (bytes_of n v) 0 n ≡ v
bytes-number zero v h = omega arith
bytes-number (suc n) v h =
    let z : v < 256 * 256 ^ n = rw (pow-succ') at h in
    let e : number_at (v % 256 ∷ bytes_of n (v / 256)) 1 n ≡ v / 256 = number-next (v % 256) (bytes_of n (v / 256)) 0 n ∙ bytes-number n (v / 256) (omega arith) in
    rw e (omega arith)

-- ---- what n bytes hold

record Holds (n : ℕ) : Type 0 where
  all : span n ≡ 256 ^ n
  low : 1 ≤ half n
  high : half n ≤ mid

width-holds : (n : ℕ) → is_width n ≡ true → Holds n
unfolding span half
width-holds n e =
    width-cases Holds n e (record { all = refl; low = omega arith; high = omega arith }) (record { all = refl; low = omega arith; high = omega arith })
    (record { all = refl; low = omega arith; high = omega arith }) (record { all = refl; low = omega arith; high = omega arith })

-- the mapping stays in the target's range
mapped-inside : (from to : ℕ) (signed marked : Bool) (p : ℕ) → least signed to ≤ largest signed to
    → (least signed to ≤ mapped from to signed marked p) × (mapped from to signed marked p ≤ largest signed to)
unfolding mapped
mapped-inside from to signed marked p h = go (marked && eqb p (largest signed from)) (ltb p (least signed to)) (ltb (largest signed to) p) (ltb-false _ _) (ltb-false _ _) where
  go : (a b c : Bool) → (b ≡ false → least signed to ≤ p) → (c ≡ false → p ≤ largest signed to)
      → (least signed to ≤ cond (a || (b || c)) (largest signed to) p) × (cond (a || (b || c)) (largest signed to) p ≤ largest signed to)
  go true b c f g = (h, omega arith)
  go false true c f g = (h, omega arith)
  go false false true f g = (h, omega arith)
  go false false false f g = (f refl, g refl)

module _ (n : ℕ) (holds : Holds n) where
  range : (signed : Bool) → least signed n ≤ largest signed n
  unfolding least largest span
  range true = omega (arith, holds.low, holds.high)
  range false = omega arith

  -- a number of the range fits n bytes, and they hold it
  small : (signed : Bool) (p : ℕ) → least signed n ≤ p → p ≤ largest signed n → number_of signed n p < span n
  unfolding least largest number_of span
  small false p a b = omega (arith, holds.low)
  small true p a b = go (leb mid p) (leb-true mid p) (leb-false mid p) where
    go : (t : Bool) → (t ≡ true → mid ≤ p) → (t ≡ false → p < mid) → cond t (p - mid) (p + (half n + half n) - mid) < half n + half n
    go true f g = let k : mid ≤ p = f refl in omega (arith, holds.low, holds.high)
    go false f g = let k : p < mid = g refl in omega (arith, holds.low, holds.high)

  again : (signed : Bool) (p : ℕ) → least signed n ≤ p → p ≤ largest signed n → integer_of signed n (number_of signed n p) ≡ p
  unfolding least largest number_of integer_of span
  again false p a b = refl
  again true p a b = go (leb mid p) (leb-true mid p) (leb-false mid p) _ refl where
    go : (t : Bool) → (t ≡ true → mid ≤ p) → (t ≡ false → p < mid)
        → (v : ℕ) → v ≡ cond t (p - mid) (p + (half n + half n) - mid) → cond (ltb v (half n)) (mid + v) (mid + v - (half n + half n)) ≡ p
    go true f g v e =
        let k : mid ≤ p = f refl in
        rw (lt-ltb v (half n) (omega (arith, holds.low, holds.high))) (omega arith)
    go false f g v e =
        let k : p < mid = g refl in
        rw (le-ltb v (half n) (omega (arith, holds.low, holds.high))) (omega (arith, holds.low, holds.high))

module _ (from to : ℕ) (signed marked : Bool) (width : is_width to ≡ true) (v : ℕ) where
  inside : (least signed to ≤ mapped from to signed marked (integer_of signed from v)) × (mapped from to signed marked (integer_of signed from v) ≤ largest signed to)
  inside = mapped-inside from to signed marked (integer_of signed from v) (range to (width-holds to width) signed)

  -- the stored bytes hold the number
  pub mapped-number : number_at (bytes_of to (map_int from to signed marked v)) 0 to ≡ map_int from to signed marked v
  unfolding map_int
  mapped-number =
      let h = width-holds to width in
      bytes-number to _ (rw (← h.all) (small to h signed _ inside.0 inside.1))

  -- and the number is the mapped integer's
  pub mapped-integer : integer_of signed to (map_int from to signed marked v) ≡ mapped from to signed marked (integer_of signed from v)
  unfolding map_int
  mapped-integer = again to (width-holds to width) signed _ inside.0 inside.1
