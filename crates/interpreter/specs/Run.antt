-- What the steps of a plan make of a target. Offsets count from the record's start, in source and target.
use Rattle.std.specs.Prelude.{ℕ, ◌+◌, ◌-◌, Bool, cond, ◌&&◌, List, [], ◌∷◌, leb, eqb}
use Rattle.std.proofs.lemmas.List.Edits.{sets}
use Rattle.lent.specs.Bytes.{number_at, bytes_of, window, has_window}
use Rattle.step.specs.Step.{source_of, takes, target_of, end_of, step_ok}
use Rattle.step.specs.declared.Op.{Op}
use Rattle.step.specs.declared.Op.TheVariants.{Copy, Int}
use Rattle.step.specs.declared.Step.{Step}
use Rattle.slot.specs.Plan.{Plan}
use Rattle.slot.specs.Slot.{body_from, header_in, size_in}
use Rattle.mapping.specs.Mapping.{map_int}

-- the bytes that a step carries: those of its window, or those of the integer that they hold, mapped
abbrev pub carried : List ℕ → Op → List ℕ
carried src (Copy source target size) = window src source size
carried src (Int source target from to signed marked) = bytes_of to (map_int from to signed marked (number_at src source from))

-- the source window lies inside the record
abbrev pub reaches : List ℕ → Step → Bool
reaches src s = has_window src (source_of s) (takes s)

-- a step that keeps its own rules and ends within n bytes of target
abbrev pub fits : ℕ → Step → Bool
fits n s = step_ok s && leb (end_of s) n

-- a step whose window passes the record's end is skipped whole
unfoldable pub run_step : List ℕ → Step → List ℕ → List ℕ
run_step src s dst = cond (reaches src s) (sets dst (target_of s) (carried src s.op)) dst

unfoldable pub run : List ℕ → List Step → List ℕ → List ℕ
run src [] dst = dst
run src (s ∷ ss) dst = run src ss (run_step src s dst)

-- the default body, then the steps
unfoldable pub upgraded : Plan → List ℕ → List ℕ → List ℕ
upgraded p src dst = run src p.steps (sets dst p.header p.body)

-- ---- what need not be laid: a first step that begins at the header, and that the record reaches, covers the body's start

abbrev pub covered_to : List ℕ → ℕ → List Step → ℕ
covered_to src header [] = header
covered_to src header (s ∷ ss) = cond (eqb (target_of s) header && reaches src s) (end_of s) header

-- a slot's default body from a place of the record on
abbrev pub body_after : List ℕ → ℕ → List ℕ
body_after slot from = window slot (body_from + (from - header_in slot)) (size_in slot - from)
