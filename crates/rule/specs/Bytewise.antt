-- What steps make of one byte of a target, given what stood there.
use Rattle.std.specs.Prelude.{ℕ, suc, ◌-◌, Bool, cond, ◌&&◌, List, [], ◌∷◌, leb, ltb}
use Rattle.lent.specs.Bytes.{byte_at}
use Rattle.step.specs.Step.{target_of, end_of}
use Rattle.step.specs.declared.Step.{Step}
use Rattle.interpreter.specs.Run.{carried, reaches}

-- byte i lies where the step writes
abbrev pub writes : Step → ℕ → Bool
writes s i = leb (target_of s) i && ltb i (end_of s)

-- byte i after the step, `old` before it
unfoldable pub step_byte : List ℕ → Step → ℕ → ℕ → ℕ
step_byte src s i old = cond (reaches src s && writes s i) (byte_at (carried src s.op) (i - target_of s)) old

unfoldable pub run_byte : List ℕ → List Step → ℕ → ℕ → ℕ
run_byte src [] i old = old
run_byte src (s ∷ ss) i old = run_byte src ss i (step_byte src s i old)

-- the bytes of a list that stands at offset h, each by its offset and what it was
unfoldable pub bytewise : (ℕ → ℕ → ℕ) → ℕ → List ℕ → List ℕ
bytewise f h [] = []
bytewise f h (x ∷ xs) = f h x ∷ bytewise f (suc h) xs
