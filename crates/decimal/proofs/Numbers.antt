-- Numbers in decimal: how long they are, a turn of the reader, and that what is written is read back. Assumes nothing.
use mathlib.Core.Path.{◌≡◌, refl, sym, ap, ◌∙◌}
use mathlib.Core.Bool.{Bool, true, false, cond}
use mathlib.Core.List.{List, [], ◌∷◌, ◌++◌, append_assoc}
use Prim.Native.Nat.{ℕ, ◌+◌, ◌-◌, ◌*◌, ◌/◌, ◌%◌, ◌≤◌, ◌<◌}
use native.Mathlib.Omega.{arith}
use native.Mathlib.Numerals.{add-one}
use lib.ListN.{length, get_or, drop, drop_of_length-le, length-append}
use lib.Seq.{drop-cons, get_or-drop, drop-drop}
use lib.Dec.{leb}
use borrow.Author.Tests.{le-leb, lt-leb, leb-false}
use Rattle.decimal.specs.Decimal.{digit, place, decimal, cell, head, is_digit, pushed, number, past}

-- ---- lengths

pub place-there : (unit n : ℕ) → unit ≤ n → place unit n ≡ digit (n / unit % 10) ∷ []
unfolding place
place-there unit n h = rw (le-leb unit n h)

pub place_none : (unit n : ℕ) → n < unit → place unit n ≡ []
unfolding place
place_none unit n h = rw (lt-leb unit n h)

place-length : (unit n : ℕ) → length (place unit n) ≤ 1
unfolding place
place-length unit n = go (leb unit n) where
  go : (b : Bool) → length (cond b (digit (n / unit % 10) ∷ []) []) ≤ 1
  go true = omega arith
  go false = omega arith

pub decimal-length : (n : ℕ) → length (decimal n) ≡ length (place 10000 n) + (length (place 1000 n) + (length (place 100 n) + (length (place 10 n) + 1)))
unfolding decimal
decimal-length n = simp length-append

pub decimal-most : (n : ℕ) → length (decimal n) ≤ 5
decimal-most n = omega (arith, decimal-length n, place-length 10000 n, place-length 1000 n, place-length 100 n, place-length 10 n)

pub cell-length : (n end : ℕ) → length (cell n end) ≡ length (decimal n) + 1
unfolding cell
cell-length n end = length-append (decimal n) (end ∷ [])

-- ---- a turn of the reader

module _ (t : List ℕ) (i : ℕ) where
  module _ (h : i < length t) where
    pub number-turn : (v : ℕ) → is_digit (get_or t i 0) ≡ true → number v (drop i t) ≡ number (pushed v (get_or t i 0)) (drop (i + 1) t)
    unfolding number
    number-turn v d = rw (drop-cons t i 0 h, d, add-one)

    pub past-turn : is_digit (get_or t i 0) ≡ true → past (drop i t) ≡ past (drop (i + 1) t)
    unfolding past
    past-turn d = rw (drop-cons t i 0 h, d, add-one)

    pub number-stop : (v : ℕ) → is_digit (get_or t i 0) ≡ false → number v (drop i t) ≡ v
    unfolding number
    number-stop v d = rw (drop-cons t i 0 h, d)

    pub past_stop : is_digit (get_or t i 0) ≡ false → past (drop i t) ≡ drop (i + 1) t
    unfolding past
    past_stop d = rw (drop-cons t i 0 h, d, add-one)

  module _ (h : length t ≤ i) where
    pub number-end : (v : ℕ) → number v (drop i t) ≡ v
    unfolding number
    number-end v = rw (drop_of_length-le t {i = i} h)

    pub past_end : past (drop i t) ≡ drop i t
    unfolding past
    past_end = rw (drop_of_length-le t {i = i} h)

  pub head_at : get_or t i 0 ≡ head (drop i t)
  head_at = let z : i + 0 ≡ i = omega arith in rw (get_or-drop i t 0 0, z)

pub pushed-fits : (v c : ℕ) → v * 10 + c % 16 ≤ 65535 → v * 10 + c % 16 ≡ pushed v c
unfolding pushed
pushed-fits v c h = rw (le-leb (v * 10 + c % 16) 65535 h)

pub pushed-large : (v c : ℕ) → 65535 < v * 10 + c % 16 → 65535 ≡ pushed v c
unfolding pushed
pushed-large v c h = rw (lt-leb (v * 10 + c % 16) 65535 h)

-- ---- a place further on

pub skip-in : (t : List ℕ) (at n : ℕ) → drop (at + n) t ≡ drop n (drop at t)
skip-in t at n = sym (drop-drop n at t)

pub skip-out : (t : List ℕ) (at n : ℕ) → length t - at < n → drop (length t) t ≡ drop n (drop at t)
skip-out t at n h = drop_of_length-le t {i = length t} (omega arith) ∙ sym (drop-drop n at t ∙ drop_of_length-le t {i = at + n} (omega arith))

-- ---- what is written is read back

digit-passes : (d : ℕ) → d < 10 → is_digit (digit d) ≡ true
digit-passes d h = rw (le-leb 48 (48 + d) (omega arith), le-leb (48 + d) 57 (omega arith))

number-digit : (v d : ℕ) (l : List ℕ) → d < 10 → v * 10 + d ≤ 65535 → number v (digit d ∷ l) ≡ number (v * 10 + d) l
unfolding number
number-digit v d l h f =
    let m : (48 + d) % 16 ≡ d = omega arith in
    let p : v * 10 + d ≡ pushed v (48 + d) = rw m at (pushed-fits v (48 + d) (rw m f)) in
    rw (digit-passes d h, ← p)

past-digit : (d : ℕ) (l : List ℕ) → d < 10 → past (digit d ∷ l) ≡ past l
unfolding past
past-digit d l h = rw (digit-passes d h)

-- a unit's digit, or none, takes the number above the unit to the number at it
number-place : (u n v : ℕ) (l : List ℕ) → v * 10 + n / u % 10 ≡ n / u → (n < u → v ≡ n / u) → n / u ≤ 65535 → number v (place u n ++ l) ≡ number (n / u) l
unfolding place
number-place u n v l e z f = go (leb u n) refl
  where
    go : (b : Bool) → leb u n ≡ b → number v (cond b (digit (n / u % 10) ∷ []) [] ++ l) ≡ number (n / u) l
    go true t = number-digit v (n / u % 10) l (omega arith) (rw e f) ∙ rw e
    go false t = rw (z (leb-false u n t))

past-place : (u n : ℕ) (l : List ℕ) → past (place u n ++ l) ≡ past l
unfolding place
past-place u n l = go (leb u n)
  where
    go : (b : Bool) → past (cond b (digit (n / u % 10) ∷ []) [] ++ l) ≡ past l
    go true = past-digit (n / u % 10) l (omega arith)
    go false = refl

regroup : (n end : ℕ) (l : List ℕ) → cell n end ++ l ≡ place 10000 n ++ (place 1000 n ++ (place 100 n ++ (place 10 n ++ (digit (n % 10) ∷ end ∷ l))))
unfolding decimal cell
regroup n end l = simp append_assoc

module _ (n end : ℕ) (l : List ℕ) (ends : is_digit end ≡ false) where
  pub number-back : n ≤ 65535 → number 0 (cell n end ++ l) ≡ n
  unfolding number
  number-back h =
      ap (number 0) (regroup n end l)
      ∙ number-place 10000 n 0 _ (omega arith) (λ b. omega arith) (omega arith)
      ∙ number-place 1000 n (n / 10000) _ (omega arith) (λ b. omega arith) (omega arith)
      ∙ number-place 100 n (n / 1000) _ (omega arith) (λ b. omega arith) (omega arith)
      ∙ number-place 10 n (n / 100) _ (omega arith) (λ b. omega arith) (omega arith)
      ∙ number-digit (n / 10) (n % 10) (end ∷ l) (omega arith) (omega arith)
      ∙ rw ends (omega arith)

  pub past_back : past (cell n end ++ l) ≡ l
  unfolding past
  past_back =
      ap past (regroup n end l)
      ∙ past-place 10000 n _
      ∙ past-place 1000 n _
      ∙ past-place 100 n _
      ∙ past-place 10 n _
      ∙ past-digit (n % 10) (end ∷ l) (omega arith)
      ∙ rw ends
