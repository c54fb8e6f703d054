-- The plan that any text would be of, if it were the writer's: what the reader's parts compute.
use Rattle.std.specs.Prelude.{ℕ, zero, suc, ◌+◌, ◌-◌, ◌*◌, Bool, cond, ◌&&◌, List, [], ◌∷◌, ◌++◌, leb, eqb, drop}
use Rattle.limits.specs.Limits.{max_bytes, max_steps}
use Rattle.lent.specs.Bytes.{bytes_of}
use Rattle.step.specs.declared.Op.{Op}
use Rattle.step.specs.declared.Op.TheVariants.{Copy, Int}
use Rattle.step.specs.declared.Step.{Step}
use Rattle.slot.specs.Plan.{Plan}
use Rattle.decimal.specs.Decimal.{head, number, past, pasts, nth}
use Rattle.decimal.specs.Hex.{unhex}

-- a line that begins `c` is a copy's, any other an integer's
abbrev pub is_copy : List ℕ → Bool
is_copy l = eqb (head l) 99

-- `copy` and a tab are passed over, or `int` and a tab
abbrev pub copy_as : List ℕ → Op
copy_as l = Copy (nth 0 l) (nth 1 l) (nth 2 l)

abbrev pub int_as : List ℕ → Op
int_as l = Int (nth 0 l) (nth 1 l) (nth 2 l) (nth 3 l) (eqb (head (pasts 4 l)) 115) (eqb (head (drop 2 (pasts 4 l))) 49)

unfoldable pub step_as : List ℕ → Step
step_as l = record { op = cond (is_copy l) (copy_as (drop 5 l)) (int_as (drop 4 l)) }

-- what stands behind the line
unfoldable pub step_past : List ℕ → List ℕ
step_past l = cond (is_copy l) (pasts 3 (drop 5 l)) (drop 4 (pasts 4 (drop 4 l)))

-- n steps
unfoldable pub steps_as : ℕ → List ℕ → List Step
steps_as zero l = []
steps_as (suc n) l = step_as l ∷ steps_as n (step_past l)

-- n numbers, as they stand in a slot
unfoldable pub numbers_as : ℕ → List ℕ → List ℕ
numbers_as zero l = []
numbers_as (suc n) l = bytes_of 2 (number 0 l) ++ numbers_as n (past l)

-- behind `plan`, a tab, `1`, a tab; behind the numbers, `body` and a tab
abbrev pub numbers_from : List ℕ → List ℕ
numbers_from t = drop 7 t

abbrev pub body_text_from : List ℕ → List ℕ
body_text_from t = drop 5 (pasts 7 (numbers_from t))

abbrev pub header_as : List ℕ → ℕ
header_as t = nth 3 (numbers_from t)

abbrev pub size_as : List ℕ → ℕ
size_as t = nth 5 (numbers_from t)

abbrev pub count_as : List ℕ → ℕ
count_as t = nth 6 (numbers_from t)

-- behind the body and a newline
abbrev pub steps_text_from : List ℕ → List ℕ
steps_text_from t = drop (2 * (size_as t - header_as t) + 1) (body_text_from t)

unfoldable pub plan_as : List ℕ → Plan
plan_as t =
    record {
      src_rtype = nth 0 (numbers_from t);
      rtype = nth 1 (numbers_from t);
      src_base = nth 2 (numbers_from t);
      header = header_as t;
      base = nth 4 (numbers_from t);
      size = size_as t;
      body = unhex (size_as t - header_as t) (body_text_from t);
      steps = steps_as (count_as t) (steps_text_from t);
    }

-- its body and its steps have room in a slot
abbrev pub has_room : List ℕ → Bool
has_room t = leb (size_as t) max_bytes && leb (count_as t) max_steps
