-- The integer that a step writes for one that it reads: one rule for both signs, by the number of bytes.
use Rattle.std.specs.Prelude.{ℕ, ◌+◌, ◌-◌, ◌*◌, ◌^◌, Bool, true, false, cond, ◌&&◌, ◌||◌, leb, ltb, eqb}

-- half of the numbers that n bytes hold, and all of them
unfoldable pub half : ℕ → ℕ
half n = 2 ^ (8 * n - 1)

unfoldable pub span : ℕ → ℕ
span n = half n + half n

-- what is added to a signed integer to make it a number
abbrev pub mid : ℕ
mid = 2 ^ 63

-- the integer that n bytes hold whose number is v; of a signed one, mid more than it
unfoldable pub integer_of : Bool → ℕ → ℕ → ℕ
integer_of false n v = v
integer_of true n v = cond (ltb v (half n)) (mid + v) (mid + v - span n)

-- the least and the largest integer of n bytes
unfoldable pub least : Bool → ℕ → ℕ
least false n = 0
least true n = mid - half n

unfoldable pub largest : Bool → ℕ → ℕ
largest false n = span n - 1
largest true n = mid + half n - 1

-- the number whose n bytes hold an integer
unfoldable pub number_of : Bool → ℕ → ℕ → ℕ
number_of false n p = p
number_of true n p = cond (leb mid p) (p - mid) (p + span n - mid)

abbrev pub outside : Bool → ℕ → ℕ → Bool
outside signed n p = ltb p (least signed n) || ltb (largest signed n) p

-- marked and equal to the source's largest, or outside the target's range: the target's largest; else the same integer
unfoldable pub mapped : ℕ → ℕ → Bool → Bool → ℕ → ℕ
mapped from to signed marked p =
    cond ((marked && eqb p (largest signed from)) || outside signed to p) (largest signed to) p

-- the same of the numbers that the bytes hold
unfoldable pub map_int : ℕ → ℕ → Bool → Bool → ℕ → ℕ
map_int from to signed marked v = number_of signed to (mapped from to signed marked (integer_of signed from v))
