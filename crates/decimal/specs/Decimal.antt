-- A number of at most 65,535 in decimal, and the number that any text begins with.
use Rattle.std.specs.Prelude.{ℕ, zero, suc, ◌+◌, ◌*◌, ◌/◌, ◌%◌, Bool, cond, ◌&&◌, List, [], ◌∷◌, ◌++◌, leb, get_or}

-- the character of a digit: `0` is 48
abbrev pub digit : ℕ → ℕ
digit d = 48 + d

-- the digit of a unit, none where the number is below the unit: no leading zeros
unfoldable pub place : ℕ → ℕ → List ℕ
place unit n = cond (leb unit n) (digit (n / unit % 10) ∷ []) []

unfoldable pub decimal : ℕ → List ℕ
decimal n = place 10000 n ++ (place 1000 n ++ (place 100 n ++ (place 10 n ++ (digit (n % 10) ∷ []))))

-- a number and the character that ends it
unfoldable pub cell : ℕ → ℕ → List ℕ
cell n end = decimal n ++ (end ∷ [])

-- ---- the reading of any text

-- its first character, 0 where there is none
abbrev pub head : List ℕ → ℕ
head l = get_or l 0 0

abbrev pub is_digit : ℕ → Bool
is_digit c = leb 48 c && leb c 57

-- one digit more, and no more than 65,535
unfoldable pub pushed : ℕ → ℕ → ℕ
pushed v c = cond (leb (v * 10 + c % 16) 65535) (v * 10 + c % 16) 65535

-- the number that a text begins with, after v
unfoldable pub number : ℕ → List ℕ → ℕ
number v [] = v
number v (c ∷ l) = cond (is_digit c) (number (pushed v c) l) v

-- what stands behind that number and the character that ends it
unfoldable pub past : List ℕ → List ℕ
past [] = []
past (c ∷ l) = cond (is_digit c) (past l) l

-- what stands behind k numbers
unfoldable pub pasts : ℕ → List ℕ → List ℕ
pasts zero l = l
pasts (suc k) l = pasts k (past l)

-- the number behind k others
abbrev pub nth : ℕ → List ℕ → ℕ
nth k l = number 0 (pasts k l)
