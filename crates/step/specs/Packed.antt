-- A step in 16 bytes: 0 a copy or 1 an integer; the sign; the mark; a zero; four numbers of two bytes, source offset, target offset,
-- size and the integer's target size; four zeros.
use Rattle.std.specs.Prelude.{ℕ, ◌+◌, ◌/◌, Bool, cond, ◌&&◌, List, [], ◌∷◌, ◌++◌, leb, eqb, length}
use Rattle.lent.specs.Bytes.{byte_at, number_at, bytes_of}
use Rattle.lent.specs.Scan.{gather}
use Rattle.step.specs.declared.Op.{Op}
use Rattle.step.specs.declared.Op.TheVariants.{Copy, Int}
use Rattle.step.specs.declared.Step.{Step}

abbrev pub bit : Bool → ℕ
bit b = cond b 1 0

-- a kind, a sign and a mark, then the four numbers
abbrev pub packed_as : ℕ → ℕ → ℕ → ℕ → ℕ → ℕ → ℕ → List ℕ
packed_as kind sign mark source target from to =
    kind ∷ sign ∷ mark ∷ 0 ∷ (bytes_of 2 source ++ (bytes_of 2 target ++ (bytes_of 2 from ++ (bytes_of 2 to ++ (0 ∷ 0 ∷ 0 ∷ 0 ∷ [])))))

abbrev pub packed_op : Op → List ℕ
packed_op (Copy source target size) = packed_as 0 0 0 source target size 0
packed_op (Int source target from to signed marked) = packed_as 1 (bit signed) (bit marked) source target from to

unfoldable pub packed_of : Step → List ℕ
packed_of s = packed_op s.op

-- the step that stands at a place
abbrev pub op_at : List ℕ → ℕ → Op
op_at p at =
    cond (eqb (byte_at p at) 0)
    (Copy (number_at p (at + 4) 2) (number_at p (at + 6) 2) (number_at p (at + 8) 2))
    (Int (number_at p (at + 4) 2) (number_at p (at + 6) 2) (number_at p (at + 8) 2) (number_at p (at + 10) 2) (eqb (byte_at p (at + 1)) 1) (eqb (byte_at p (at + 2)) 1))

unfoldable pub step_at : List ℕ → ℕ → Step
step_at p at = record { op = op_at p at }

-- kind, sign and mark are 0 or 1
abbrev pub flags_ok : List ℕ → ℕ → Bool
flags_ok p at = leb (byte_at p at) 1 && (leb (byte_at p (at + 1)) 1 && leb (byte_at p (at + 2)) 1)

-- n steps from `at` on
abbrev pub steps_at : List ℕ → ℕ → ℕ → List Step
steps_at p at n = gather (step_at p) 16 at n

-- as many as stand whole in lent bytes
abbrev pub steps_of : List ℕ → List Step
steps_of p = steps_at p 0 (length p / 16)
