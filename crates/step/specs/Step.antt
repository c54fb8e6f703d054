-- A step of a plan: what it reads, what it writes, and the rules it keeps.
use Rattle.std.specs.Prelude.{ℕ, ◌+◌, Bool, true, not, ◌&&◌, ◌||◌, List, [], ◌∷◌, leb, ltb, eqb}
use Rattle.limits.specs.Limits.{max_bytes}
use Rattle.catalogue.specs.Catalogue.{is_width}
use Rattle.step.specs.declared.Op.{Op}
use Rattle.step.specs.declared.Op.TheVariants.{Copy, Int}
use Rattle.step.specs.declared.Step.{Step}

abbrev pub copy : ℕ → ℕ → ℕ → Step
copy source target size = record { op = Copy source target size }

abbrev pub int : ℕ → ℕ → ℕ → ℕ → Bool → Bool → Step
int source target from to signed marked = record { op = Int source target from to signed marked }

-- ---- where it reads and writes, and how many bytes

abbrev pub source_op : Op → ℕ
source_op (Copy source target size) = source
source_op (Int source target from to signed marked) = source

abbrev pub takes_op : Op → ℕ
takes_op (Copy source target size) = size
takes_op (Int source target from to signed marked) = from

abbrev pub target_op : Op → ℕ
target_op (Copy source target size) = target
target_op (Int source target from to signed marked) = target

abbrev pub gives_op : Op → ℕ
gives_op (Copy source target size) = size
gives_op (Int source target from to signed marked) = to

abbrev pub source_of : Step → ℕ
source_of s = source_op s.op

abbrev pub takes : Step → ℕ
takes s = takes_op s.op

abbrev pub target_of : Step → ℕ
target_of s = target_op s.op

abbrev pub gives : Step → ℕ
gives s = gives_op s.op

-- where it ends in the target
abbrev pub end_of : Step → ℕ
end_of s = target_of s + gives s

-- ---- the rules

-- 1, 2, 4 or 8 bytes, unequal; without a mark to a wider one only
abbrev pub widths_ok : ℕ → ℕ → Bool → Bool
widths_ok from to marked = is_width from && (is_width to && (not (eqb from to) && (marked || ltb from to)))

-- a size of at least 1, and a source end of at most 4,096
abbrev pub op_ok : Op → Bool
op_ok (Copy source target size) = not (eqb size 0) && leb (source + size) max_bytes
op_ok (Int source target from to signed marked) = widths_ok from to marked && leb (source + from) max_bytes

abbrev pub step_ok : Step → Bool
step_ok s = op_ok s.op

-- it starts at `low` or later in the target, and ends at `high` or before
abbrev pub within : ℕ → ℕ → Step → Bool
within low high s = leb low (target_of s) && leb (end_of s) high

-- target offsets ascend, none overlap, and all lie from `low` to `high`
unfoldable pub steps_ok : ℕ → ℕ → List Step → Bool
steps_ok low high [] = true
steps_ok low high (s ∷ ss) = (step_ok s && within low high s) && steps_ok (end_of s) high ss
