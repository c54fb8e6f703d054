-- What the comparison of a text with a plan's own computes.
use Rattle.std.specs.Prelude.{ℕ, ◌+◌, ◌*◌, Bool, cond, ◌&&◌, List, [], ◌∷◌, ◌++◌, Option, Some, None, eqb, length}
use Rattle.lent.specs.Bytes.{byte_at, window}
use Rattle.lent.specs.Scan.{alike}
use Rattle.decimal.specs.Hex.{hex}
use Rattle.plan_text.specs.Text.{tab, newline, word_body}

-- how long a line is, where it stands in a text from `at` on
abbrev pub stood : List ℕ → List ℕ → ℕ → Option ℕ
stood line t at = cond (alike eqb line (window t at (length line))) (Some (length line)) None

-- the body's line stands in a text from `at` on: its word, the hex of its n bytes, its end
abbrev pub body_stands : List ℕ → ℕ → List ℕ → ℕ → Bool
body_stands body n t at =
    alike eqb (word_body ++ (tab ∷ [])) (window t at 5)
    && (alike eqb (hex body) (window t (at + 5) (2 * n)) && eqb newline (byte_at t ((at + 5) + 2 * n)))
