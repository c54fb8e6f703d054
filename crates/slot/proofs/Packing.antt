-- The parts of a slot, stored one behind the other. Assumes nothing.
use mathlib.Core.Path.{◌≡◌, refl, sym}
use mathlib.Core.List.{List, [], ◌∷◌, ◌++◌, append_assoc}
use Prim.Native.Nat.{ℕ, suc, ◌+◌, ◌-◌, ◌*◌, ◌≤◌, ◌<◌}
use native.Mathlib.Nat.{mul-suc}
use native.Mathlib.Omega.{arith}
use lib.ListN.{length, get_or, take, drop, replicate, length-append, length-replicate}
use lib.Seq.{sets, drop-cons, get_or-take, length-take-le}
use Rattle.limits.specs.Limits.{max_bytes, max_steps}
use Rattle.lent.specs.Bytes.{window}
use Rattle.lent.proofs.Stored.{whole, sets_then}
use Rattle.step.specs.Step.{copy}
use Rattle.step.specs.Packed.{packed_op, packed_of}
use Rattle.step.specs.declared.Op.{Op}
use Rattle.step.specs.declared.Op.TheVariants.{Copy, Int}
use Rattle.step.specs.declared.Step.{Step}
use Rattle.slot.specs.Slot.{steps_from, body_from, filled, packed_steps}

-- what is read of an array of steps past its end
abbrev no_step : Step
no_step = copy 0 0 0

-- a packed step takes 16 bytes, and so does each of many
pub packed-size : (s : Step) → length (packed_of s) ≡ 16
unfolding packed_of
packed-size s = go s.op where
  go : (o : Op) → length (packed_op o) ≡ 16
  go (Copy a b n) = refl
  go (Int a b n m g k) = refl

pub steps-size : (ss : List Step) → length (packed_steps ss) ≡ 16 * length ss
steps-size [] = refl
steps-size (s ∷ ss) =
    let z = length-append (packed_of s) (packed_steps ss) in
    let p = packed-size s in
    let ih = steps-size ss in
    let m : 16 * suc (length ss) ≡ 16 + 16 * length ss = simp mul-suc (omega arith) in
    omega arith

-- a turn of packing: what is left to store gives what the whole does
pub packs : (ss : List Step) (n : ℕ) (slot new bytes : List ℕ) (at k : ℕ) → k < n → n ≤ length ss
    → bytes ≡ packed_of (get_or ss k no_step) → new ≡ sets slot at (window bytes 0 16)
    → sets new (at + 16) (packed_steps (drop (k + 1) (take n ss))) ≡ sets slot at (packed_steps (drop k (take n ss)))
packs ss n slot new bytes at k h l eb en =
    let t = length-take-le n ss l in
    let lt : k < length (take n ss) = omega arith in
    let e : k + 1 ≡ suc k = omega arith in
    let c = drop-cons (take n ss) k no_step lt in
    let p = packed-size (get_or ss k no_step) in
    let w : window (packed_of (get_or ss k no_step)) 0 16 ≡ packed_of (get_or ss k no_step) = whole (packed_of (get_or ss k no_step)) 16 (omega arith) in
    let j = sets_then slot (packed_of (get_or ss k no_step)) (packed_steps (drop (suc k) (take n ss))) at in
    rw (en, eb, w, e, c, get_or-take n ss k no_step h) (rw p at j)

-- ---- the parts of a slot

-- a part stored where the last one ended
then : (d xs ys e e' : List ℕ) (at : ℕ) → e ≡ sets d 0 xs → at ≡ length xs → e' ≡ sets e at ys → e' ≡ sets d 0 (xs ++ ys)
then d xs ys e e' at q l r =
    let z : 0 + length xs ≡ length xs = omega arith in
    let j = sets_then d xs ys 0 in
    rw (r, q, l) (rw z at j)

-- head, steps and zeros, body and zeros: all of them from 0 on
pub laid : (d e₁ e₂ e₃ e₄ e₅ head steps body : List ℕ) (n : ℕ) → length head ≡ steps_from → length steps ≡ 16 * n → n ≤ max_steps
    → e₁ ≡ sets d 0 head → e₂ ≡ sets e₁ steps_from steps → e₃ ≡ sets e₂ (steps_from + 16 * n) (replicate (body_from - (steps_from + 16 * n)) 0)
    → e₄ ≡ sets e₃ body_from (window body 0 (length body)) → e₅ ≡ sets e₄ (body_from + length body) (replicate (max_bytes - length body) 0)
    → e₅ ≡ sets d 0 (head ++ (filled (16 * max_steps) steps ++ filled max_bytes body))
laid d e₁ e₂ e₃ e₄ e₅ head steps body n lh ls few q₁ q₂ q₃ q₄ q₅ =
    let room : body_from - (steps_from + 16 * n) ≡ 16 * max_steps - length steps = omega arith in
    let z₁ : List ℕ = replicate (16 * max_steps - length steps) 0 in
    let z₂ : List ℕ = replicate (max_bytes - length body) 0 in
    let l₁ = length-append head steps in
    let l₂ = length-append (head ++ steps) z₁ in
    let l₃ = length-append ((head ++ steps) ++ z₁) body in
    let lz : length z₁ ≡ 16 * max_steps - length steps = length-replicate (16 * max_steps - length steps) 0 in
    let s₂ = then d head steps e₁ e₂ steps_from q₁ (sym lh) q₂ in
    let s₃ = then d (head ++ steps) z₁ e₂ e₃ (steps_from + 16 * n) s₂ (omega arith) (rw room at q₃) in
    let s₄ = then d ((head ++ steps) ++ z₁) body e₃ e₄ body_from s₃ (omega arith) (rw (whole body (length body) (omega arith)) at q₄) in
    let s₅ = then d (((head ++ steps) ++ z₁) ++ body) z₂ e₄ e₅ (body_from + length body) s₄ (omega arith) q₅ in
    let j : (((head ++ steps) ++ z₁) ++ body) ++ z₂ ≡ head ++ ((steps ++ z₁) ++ (body ++ z₂)) = simp append_assoc in
    rw (← j) s₅
