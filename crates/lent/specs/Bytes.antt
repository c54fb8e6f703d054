-- Lent bytes, read so that any bytes will do: past the end there is a zero, and a part that does not lie inside is empty.
use Rattle.std.specs.Prelude.{ℕ, zero, suc, ◌+◌, ◌*◌, ◌/◌, ◌%◌, ◌<◌, Bool, cond, List, [], ◌∷◌, leb, length, get_or, take, drop}

abbrev pub byte_at : List ℕ → ℕ → ℕ
byte_at s at = get_or s at 0

-- what a list of numbers has to keep to be lent as bytes
abbrev pub Bytes : List ℕ → Type 0
Bytes s = (i : ℕ) → byte_at s i < 256

-- the number that n bytes from `at` on hold, low first
abbrev pub number_at : List ℕ → ℕ → ℕ → ℕ
number_at s at zero = 0
number_at s at (suc n) = byte_at s at + 256 * number_at s (at + 1) n

-- the n low bytes of a number, low first
abbrev pub bytes_of : ℕ → ℕ → List ℕ
bytes_of zero v = []
bytes_of (suc n) v = v % 256 ∷ bytes_of n (v / 256)

-- n bytes from `at` on
abbrev pub window : List ℕ → ℕ → ℕ → List ℕ
window s at n = take n (drop at s)

-- do they lie inside?
abbrev pub has_window : List ℕ → ℕ → ℕ → Bool
has_window s at n = leb (at + n) (length s)

-- the window where it lies inside, else nothing
unfoldable pub part_of : List ℕ → ℕ → ℕ → List ℕ
part_of s at n = cond (has_window s at n) (window s at n) []
