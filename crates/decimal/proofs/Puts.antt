-- Stores one behind the other. Assumes nothing.
use mathlib.Core.Path.{◌≡◌, refl, ap, ◌∙◌}
use mathlib.Core.List.{List, [], ◌∷◌, ◌++◌}
use Prim.Native.Nat.{ℕ, ◌+◌, ◌≤◌}
use native.Mathlib.Omega.{arith}
use lib.ListN.{length, take, drop, set, length-append}
use lib.Seq.{sets, sets-eq, take_at}
use Rattle.lent.proofs.Stored.{sets_then}
use Rattle.decimal.specs.Put.{Put}

pub put-none : (d : List ℕ) (at : ℕ) → Put d at [] d at
put-none d at = record { stored = refl; behind = omega arith }

pub put_one : (d : List ℕ) (at b : ℕ) → Put d at (b ∷ []) (set d at b) (at + 1)
put_one d at b = record { stored = refl; behind = refl }

pub put_then : {d e f : List ℕ} {at next end : ℕ} {a b : List ℕ} → Put d at a e next → Put e next b f end → Put d at (a ++ b) f end
put_then {d} {e} {f} {at} {next} {end} {a} {b} p q =
    record {
      stored = q.stored ∙ rw (p.stored, p.behind) (sets_then d a b at);
      behind = rw (length-append a b) (omega arith);
    }

-- the same, in another grouping
pub put_as : {d e : List ℕ} {at next : ℕ} {a b : List ℕ} → Put d at a e next → a ≡ b → Put d at b e next
put_as p eq = record { stored = p.stored ∙ rw eq; behind = p.behind ∙ rw eq }

-- what stands at the start after a store there
pub put-start : {d e : List ℕ} {next : ℕ} {a : List ℕ} → Put d 0 a e next → length a ≤ length d → take next e ≡ a
put-start {d} {e} {next} {a} p h =
    let z : sets d 0 a ≡ a ++ drop (0 + length a) d = sets-eq a d 0 (omega arith) in
    rw (p.stored, z) (take_at a (drop (0 + length a) d) next (omega arith))

-- a turn of a loop of stores: what is left to store gives what the whole does
pub put-room : (at end : ℕ) (a b left : List ℕ) → left ≡ a ++ b → at + length left ≡ end → at + length a ≤ end
put-room at end a b left so h = let z = length-append a b in let w : length left ≡ length (a ++ b) = ap length so in omega arith

pub put-goes : {d e : List ℕ} {at next : ℕ} {a : List ℕ} (b left all : List ℕ) → left ≡ a ++ b → Put d at a e next → sets d at left ≡ all → sets e next b ≡ all
put-goes {d} {e} {at} {next} {a} b left all so p h = rw (p.stored, p.behind, sets_then d a b at, ← so) h

pub put-left : {d e : List ℕ} {at next : ℕ} {a : List ℕ} (b left : List ℕ) (end : ℕ) → left ≡ a ++ b → Put d at a e next → at + length left ≡ end → next + length b ≡ end
put-left {d} {e} {at} {next} {a} b left end so p h =
    let z = length-append a b in
    let w : length left ≡ length (a ++ b) = ap length so in
    let y = p.behind in
    omega arith
