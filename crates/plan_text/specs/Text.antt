-- The text of a plan. Lines end in a newline, fields are parted by tabs, numbers are decimal without leading zeros, hex is lower case.
use Rattle.std.specs.Prelude.{ℕ, Bool, cond, List, [], ◌∷◌, ◌++◌, length}
use Rattle.decimal.specs.Decimal.{cell}
use Rattle.decimal.specs.Hex.{hex}
use Rattle.step.specs.declared.Op.{Op}
use Rattle.step.specs.declared.Op.TheVariants.{Copy, Int}
use Rattle.step.specs.declared.Step.{Step}
use Rattle.slot.specs.Plan.{Plan}

-- ---- characters, and the words that lines begin with

abbrev pub tab : ℕ
tab = 9

abbrev pub newline : ℕ
newline = 10

-- `plan`, `body`, `copy`, `int`
abbrev pub word_plan : List ℕ
word_plan = 112 ∷ 108 ∷ 97 ∷ 110 ∷ []

abbrev pub word_body : List ℕ
word_body = 98 ∷ 111 ∷ 100 ∷ 121 ∷ []

abbrev pub word_copy : List ℕ
word_copy = 99 ∷ 111 ∷ 112 ∷ 121 ∷ []

abbrev pub word_int : List ℕ
word_int = 105 ∷ 110 ∷ 116 ∷ []

-- `s` for signed, `u` for unsigned
abbrev pub sign_of : Bool → ℕ
sign_of signed = cond signed 115 117

-- the mark, `1` or `0`
abbrev pub mark_of : Bool → ℕ
mark_of marked = cond marked 49 48

abbrev pub edition : ℕ
edition = 1

-- ---- the lines

-- `plan`, the edition, source rtype, rtype, source base, target header length, target base, record size, step count
unfoldable pub head_line : ℕ → ℕ → ℕ → ℕ → ℕ → ℕ → ℕ → List ℕ
head_line src_rtype rtype src_base header base size count =
    word_plan ++ (tab ∷ (cell edition tab ++ (cell src_rtype tab ++ (cell rtype tab ++ (cell src_base tab
    ++ (cell header tab ++ (cell base tab ++ (cell size tab ++ cell count newline))))))))

-- `body`, a tab and the hex, which may be empty
unfoldable pub body_line : List ℕ → List ℕ
body_line body = word_body ++ (tab ∷ (hex body ++ (newline ∷ [])))

-- the sign and the mark, the last fields of an integer's line
abbrev pub signs_of : Bool → Bool → List ℕ
signs_of signed marked = sign_of signed ∷ tab ∷ mark_of marked ∷ newline ∷ []

-- `copy` or `int` and the step's numbers
unfoldable pub step_line : Op → List ℕ
step_line (Copy source target size) = word_copy ++ (tab ∷ (cell source tab ++ (cell target tab ++ cell size newline)))
step_line (Int source target from to signed marked) =
    word_int ++ (tab ∷ (cell source tab ++ (cell target tab ++ (cell from tab ++ (cell to tab
    ++ signs_of signed marked)))))

unfoldable pub step_lines : List Step → List ℕ
step_lines [] = []
step_lines (s ∷ ss) = step_line s.op ++ step_lines ss

unfoldable pub text_of : Plan → List ℕ
text_of p =
    head_line p.src_rtype p.rtype p.src_base p.header p.base p.size (length p.steps)
    ++ (body_line p.body ++ step_lines p.steps)
