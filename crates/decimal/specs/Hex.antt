-- Bytes in hex, and the bytes that any text gives as hex.
use Rattle.std.specs.Prelude.{ℕ, zero, suc, ◌+◌, ◌*◌, ◌/◌, ◌%◌, cond, List, [], ◌∷◌, ltb, drop}
use Rattle.decimal.specs.Decimal.{head}

-- the character of a hex digit, lower case: `0` is 48, `a` is 97
abbrev pub glyph : ℕ → ℕ
glyph d = cond (ltb d 10) (48 + d) (87 + d)

unfoldable pub hex : List ℕ → List ℕ
hex [] = []
hex (b ∷ bs) = glyph (b / 16) ∷ glyph (b % 16) ∷ hex bs

-- ---- the reading of any text

-- the digit of a character: right for `0` to `9` and `a` to `f`
abbrev pub nibble : ℕ → ℕ
nibble c = (c % 16 + 9 * (c / 64)) % 16

-- n bytes
unfoldable pub unhex : ℕ → List ℕ → List ℕ
unhex zero l = []
unhex (suc n) l = (16 * nibble (head l) + nibble (head (drop 1 l))) ∷ unhex n (drop 2 l)
