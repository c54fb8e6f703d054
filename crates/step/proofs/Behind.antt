-- Packed steps: the first, and those of what stands behind it. Assumes nothing.
use mathlib.Core.Path.{◌≡◌, refl, sym, ap, ◌∙◌}
use mathlib.Core.List.{List, [], ◌∷◌}
use Prim.Native.Nat.{ℕ, zero, suc, ◌+◌, ◌-◌, ◌*◌, ◌/◌, ◌≤◌, ◌<◌}
use native.Mathlib.Omega.{arith}
use lib.ListN.{length, drop, take, length-drop}
use lib.Seq.{length-take-le, get_or-take}
use Rattle.std.proofs.lemmas.List.{get_or-drop}
use Rattle.lent.specs.Bytes.{byte_at, number_at}
use Rattle.lent.specs.Scan.{gather}
use Rattle.lent.proofs.Scan.{turn, none}
use Rattle.step.specs.Packed.{step_at, steps_at, steps_of}
use Rattle.step.specs.declared.Step.{Step}

byte-behind : (s : List ℕ) (n at : ℕ) → byte_at (drop n s) at ≡ byte_at s (n + at)
byte-behind s n at = get_or-drop n s at 0

number-behind : (s : List ℕ) (n at m : ℕ) → number_at (drop n s) at m ≡ number_at s (n + at) m
number-behind s n at zero = refl
number-behind s n at (suc m) =
    let e : n + (at + 1) ≡ (n + at) + 1 = omega arith in
    rw (byte-behind s n at, number-behind s n (at + 1) m, e)

step-behind : (s : List ℕ) (n at : ℕ) → step_at (drop n s) at ≡ step_at s (n + at)
unfolding step_at
step-behind s n at =
    let a : n + (at + 1) ≡ (n + at) + 1 = omega arith in
    let b : n + (at + 2) ≡ (n + at) + 2 = omega arith in
    let c : n + (at + 4) ≡ (n + at) + 4 = omega arith in
    let d : n + (at + 6) ≡ (n + at) + 6 = omega arith in
    let e : n + (at + 8) ≡ (n + at) + 8 = omega arith in
    let f : n + (at + 10) ≡ (n + at) + 10 = omega arith in
    rw (byte-behind s n at, byte-behind s n (at + 1), byte-behind s n (at + 2), number-behind s n (at + 4) 2, number-behind s n (at + 6) 2, number-behind s n (at + 8) 2, number-behind s n (at + 10) 2, a, b, c, d, e, f)

pub steps-behind : (s : List ℕ) (n at m : ℕ) → steps_at (drop n s) at m ≡ steps_at s (n + at) m
unfolding gather
steps-behind s n at zero = refl
steps-behind s n at (suc m) =
    let e : n + (at + 16) ≡ (n + at) + 16 = omega arith in
    rw (step-behind s n at, steps-behind s n (at + 16) m, e)

-- what is too short for a step has none
pub no-step : (s : List ℕ) → length s < 16 → steps_of s ≡ []
no-step s h = none (step_at s) 16 0 (length s / 16) (omega arith)

-- the first step, and the others
pub first-step : (s : List ℕ) → 16 ≤ length s → steps_of s ≡ step_at s 0 ∷ steps_of (drop 16 s)
first-step s h =
    let n : length (drop 16 s) / 16 ≡ length s / 16 - 1 = rw (length-drop 16 s) (omega arith) in
    turn (step_at s) 16 0 (length s / 16) (omega arith)
    ∙ ap (λ (ss : List Step). step_at s 0 ∷ ss) (sym (rw n (steps-behind s 16 0 (length s / 16 - 1))))

-- ---- steps in a part of lent bytes

byte-before : (s : List ℕ) (m at : ℕ) → at < m → byte_at (take m s) at ≡ byte_at s at
byte-before s m at h = get_or-take m s at 0 h

number-before : (s : List ℕ) (m at n : ℕ) → at + n ≤ m → number_at (take m s) at n ≡ number_at s at n
number-before s m at zero h = refl
number-before s m at (suc n) h = rw (byte-before s m at (omega arith), number-before s m (at + 1) n (omega arith))

step-before : (s : List ℕ) (m at : ℕ) → at + 16 ≤ m → step_at (take m s) at ≡ step_at s at
unfolding step_at
step-before s m at h =
    rw (
      byte-before s m at (omega arith),
      byte-before s m (at + 1) (omega arith),
      byte-before s m (at + 2) (omega arith),
      number-before s m (at + 4) 2 (omega arith),
      number-before s m (at + 6) 2 (omega arith),
      number-before s m (at + 8) 2 (omega arith),
      number-before s m (at + 10) 2 (omega arith),
    )

steps-before : (s : List ℕ) (m at n : ℕ) → at + 16 * n ≤ m → steps_at (take m s) at n ≡ steps_at s at n
unfolding gather
steps-before s m at zero h = refl
steps-before s m at (suc n) h = rw (step-before s m at (omega arith), steps-before s m (at + 16) n (omega arith))

-- a part of n steps holds those
pub steps-part : (s : List ℕ) (at n : ℕ) → at + 16 * n ≤ length s → steps_of (take (16 * n) (drop at s)) ≡ steps_at s at n
steps-part s at n h =
    let room : 16 * n ≤ length (drop at s) = rw (length-drop at s) (omega arith) in
    let whole : length (take (16 * n) (drop at s)) ≡ 16 * n = length-take-le (16 * n) (drop at s) room in
    let many : length (take (16 * n) (drop at s)) / 16 ≡ n = omega arith in
    let start : at + 0 ≡ at = omega arith in
    rw (many, steps-before (drop at s) (16 * n) 0 n (omega arith), steps-behind s at 0 n, start)
