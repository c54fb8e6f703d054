-- Laws of reads. Assumes nothing.
use mathlib.Core.Path.{◌≡◌, refl, sym, ap, ◌∙◌}
use mathlib.Core.Bool.{Bool, true, false, cond}
use mathlib.Core.List.{List, [], ◌++◌}
use Prim.Native.Nat.{ℕ, zero, suc, ◌+◌, ◌-◌, ◌*◌, ◌/◌, ◌%◌, ◌^◌, ◌≤◌, ◌<◌}
use native.Mathlib.Nat.{mul_assoc, pow-succ'}
use native.Mathlib.Omega.{arith}
use lib.ListN.{length, take, drop, length-take, length-drop, drop_of_length-le}
use lib.Seq.{take_all}
use lib.Dec.{leb}
use borrow.Author.Tests.{le-leb, lt-leb, leb-true, leb-false}
use Rattle.lent.specs.Bytes.{byte_at, number_at, bytes_of, window, has_window, part_of}

-- n + m bytes hold the number of the n low ones and, above them, that of the m others
pub number-add : (s : List ℕ) (at n m : ℕ) → number_at s at (n + m) ≡ number_at s at n + 256 ^ n * number_at s (at + n) m
number-add s at zero m =
    let e : at + 0 ≡ at = omega arith in
    let f : 0 + m ≡ m = omega arith in
    rw (e, f) (omega arith)
number-add s at (suc n) m =
    let e : suc n + m ≡ suc (n + m) = omega arith in
    let f : at + suc n ≡ (at + 1) + n = omega arith in
    let g : 256 ^ suc n * number_at s ((at + 1) + n) m ≡ 256 * (256 ^ n * number_at s ((at + 1) + n) m) = rw (pow-succ', mul_assoc) in
    let ih = number-add s (at + 1) n m in
    rw (e, f, g) (omega arith)

-- bytes that hold zero are zero
pub number-zero : (s : List ℕ) (at n : ℕ) → number_at s at n ≡ 0 → (j : ℕ) → j < n → byte_at s (at + j) ≡ 0
number-zero s at zero e j h = absurd (let z : ⊥ = omega arith in z)
number-zero s at (suc n) e zero h = let f : at + 0 ≡ at = omega arith in rw f (omega arith)
number-zero s at (suc n) e (suc j) h = let f : at + suc j ≡ (at + 1) + j = omega arith in rw f (number-zero s (at + 1) n (omega arith) j (omega arith))

-- and the bytes of such a number are those of the two
pub bytes-add : (n m low high : ℕ) → low < 256 ^ n → bytes_of (n + m) (low + 256 ^ n * high) ≡ bytes_of n low ++ bytes_of m high
bytes-add zero m low high h =
    let e : 0 + m ≡ m = omega arith in
    let f : low + 256 ^ 0 * high ≡ high = omega arith in
    rw (e, f)
bytes-add (suc n) m low high h =
    let e : suc n + m ≡ suc (n + m) = omega arith in
    let p : 256 ^ suc n * high ≡ 256 * (256 ^ n * high) = rw (pow-succ', mul_assoc) in
    let z : low < 256 * 256 ^ n = rw (pow-succ') at h in
    let first : (low + 256 * (256 ^ n * high)) % 256 ≡ low % 256 = omega arith in
    let rest : (low + 256 * (256 ^ n * high)) / 256 ≡ low / 256 + 256 ^ n * high = omega arith in
    let ih = bytes-add n m (low / 256) high (omega arith) in
    rw (e, p, first, rest, ih)

pub length-bytes_of : (n v : ℕ) → length (bytes_of n v) ≡ n
length-bytes_of zero v = refl
length-bytes_of (suc n) v = ap suc (length-bytes_of n _)

-- a window's test without the sum of its start and its size, which could wrap
pub fits-by-difference : (at n k : ℕ) → n ≤ k → leb at (k - n) ≡ leb (at + n) k
fits-by-difference at n k h = go (leb at (k - n)) (leb-true at (k - n)) (leb-false at (k - n)) where
  go : (p : Bool) → (p ≡ true → at ≤ k - n) → (p ≡ false → k - n < at) → p ≡ leb (at + n) k
  go true yes-at no-at = let z = yes-at refl in sym (le-leb (at + n) k (omega arith))
  go false yes-at no-at = let z = no-at refl in sym (lt-leb (at + n) k (omega arith))

-- a window inside is found, whether its end is computed as a sum or not
pub part_in : (s : List ℕ) (at n : ℕ) → at + n ≤ length s → take ((at + n) - at) (drop at s) ≡ part_of s at n
unfolding part_of
part_in s at n h =
    let e : (at + n) - at ≡ n = omega arith in
    rw (le-leb (at + n) (length s) h, e)

pub part_out : (s : List ℕ) (at n : ℕ) → length s < at + n → [] ≡ part_of s at n
unfolding part_of
part_out s at n h = rw (lt-leb (at + n) (length s) h)

-- a part is no longer than is asked for
pub part_length : (s : List ℕ) (at n : ℕ) → length (part_of s at n) ≤ n
unfolding part_of
part_length s at n = go (has_window s at n) where
  go : (p : Bool) → length (cond p (window s at n) []) ≤ n
  go true = omega (arith, length-take n (drop at s))
  go false = omega arith

pub window-length : (s : List ℕ) (from n : ℕ) → from + n ≤ length s → length (window s from n) ≡ n
window-length s from n h = simp (length-take, length-drop) (omega arith)

-- a window is the part where it lies inside, what there is of it where it passes the end, and nothing past the end
pub window-in : (s : List ℕ) (at n : ℕ) → has_window s at n ≡ true → part_of s at n ≡ window s at n
unfolding part_of
window-in s at n e = rw e

pub window-cut : (s : List ℕ) (at n : ℕ) → length s < at + n → window s at (length s - at) ≡ window s at n
window-cut s at n h =
    let z = length-drop at s in
    take_all (length s - at) (drop at s) (omega arith) ∙ sym (take_all n (drop at s) (omega arith))

pub window-past : (s : List ℕ) (at n : ℕ) → length s ≤ at → [] ≡ window s at n
window-past s at n h = go n (drop at s) (drop_of_length-le s h) where
  go : (m : ℕ) (t : List ℕ) → t ≡ [] → [] ≡ take m t
  go zero t e = refl
  go (suc m) t e = rw e
