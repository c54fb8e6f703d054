-- Stores of runs of bytes, and what is read of them. Assumes nothing.
use mathlib.Core.Path.{◌≡◌, refl, sym, ap, ◌∙◌}
use mathlib.Core.List.{List, [], ◌∷◌, ◌++◌, append-nil}
use Prim.Native.Nat.{ℕ, zero, suc, ◌+◌, ◌-◌, ◌*◌, ◌/◌, ◌%◌, ◌^◌, ◌≤◌, ◌<◌}
use native.Mathlib.Nat.{add-zero, div-one, div-div-eq-div-mul, pow-succ'}
use native.Mathlib.Omega.{arith}
use lib.ListN.{length, set, replicate, length-set, drop_of_length-le}
use lib.Seq.{sets, sets-eq, set-set, set_comm, drop-cons, take_all, get_or-set_same, get_or-set_other}
use Rattle.lent.specs.Bytes.{byte_at, Bytes, number_at, bytes_of, window}
use Rattle.lent.proofs.Bytes.{window-length}

pub window-cons : (s : List ℕ) (a n : ℕ) → a < length s → window s a (suc n) ≡ byte_at s a ∷ window s (suc a) n
window-cons s a n h = rw (drop-cons s a 0)

-- all of a list
pub whole : (s : List ℕ) (n : ℕ) → length s ≤ n → window s 0 n ≡ s
whole s n h = take_all n s h

-- a byte below a run that was stored, and one of the run
pub get-below : (vs l : List ℕ) (i j : ℕ) → j < i → byte_at (sets l i vs) j ≡ byte_at l j
get-below [] l i j h = refl
get-below (v ∷ vs) l i j h = get-below vs (set l i v) (suc i) j (omega arith) ∙ get_or-set_other l i j v 0 (λ e. omega arith)

pub get_in : (vs l : List ℕ) (i j : ℕ) → j < length vs → i + length vs ≤ length l → byte_at (sets l i vs) (i + j) ≡ byte_at vs j
get_in [] l i j h b = absurd (let z : ⊥ = omega arith in z)
get_in (v ∷ vs) l i zero h b =
    let lt : i < length l = omega arith in
    let e : i + 0 ≡ i = omega arith in
    rw e (get-below vs (set l i v) (suc i) i (omega arith) ∙ get_or-set_same l i v 0 lt)
get_in (v ∷ vs) l i (suc j) h b =
    let e : i + suc j ≡ suc i + j = omega arith in
    rw e (get_in vs (set l i v) (suc i) j (omega arith) (simp length-set (omega arith)))

-- a byte past a run that was stored
pub get-past : (vs l : List ℕ) (i j : ℕ) → i + length vs ≤ j → byte_at (sets l i vs) j ≡ byte_at l j
get-past [] l i j h = refl
get-past (v ∷ vs) l i j h = get-past vs (set l i v) (suc i) j (omega arith) ∙ get_or-set_other l i j v 0 (λ e. omega arith)

-- a run stored behind another is one run
pub sets_then : (d xs ys : List ℕ) (at : ℕ) → sets (sets d at xs) (at + length xs) ys ≡ sets d at (xs ++ ys)
sets_then d [] ys at = let e : at + 0 ≡ at = omega arith in rw e
sets_then d (x ∷ xs) ys at = let e : at + suc (length xs) ≡ suc at + length xs = omega arith in rw e (sets_then (set d at x) xs ys (suc at))

-- a store below a run may come first
set_first : (d ys : List ℕ) (i at v : ℕ) → i < at → set (sets d at ys) i v ≡ sets (set d i v) at ys
set_first d [] i at v h = refl
set_first d (y ∷ ys) i at v h = set_first (set d at y) ys i (suc at) v (omega arith) ∙ ap (λ r. sets r (suc at) ys) (set_comm d at i y v (λ e. omega arith))

-- a run that ends before another begins may come first
pub sets-swap : (d xs ys : List ℕ) (a b : ℕ) → a + length xs ≤ b → sets (sets d b ys) a xs ≡ sets (sets d a xs) b ys
sets-swap d [] ys a b h = refl
sets-swap d (x ∷ xs) ys a b h = ap (λ r. sets r (suc a) xs) (set_first d ys a b x (omega arith)) ∙ sets-swap (set d a x) xs ys (suc a) b (omega arith)

-- a run that is stored over the end of another leaves nothing of it
pub sets_over : (d xs ys : List ℕ) (at k : ℕ) → k + length ys ≡ length xs → sets (sets d (at + k) ys) at xs ≡ sets d at xs
sets_over d [] [] at k h = refl
sets_over d [] (y ∷ ys) at k h = absurd (let z : ⊥ = omega arith in z)
sets_over d (x ∷ xs) [] at zero h = absurd (let z : ⊥ = omega arith in z)
sets_over d (x ∷ xs) (y ∷ ys) at zero h =
    let e : at + 0 ≡ at = omega arith in
    let f : suc at + 0 ≡ suc at = omega arith in
    rw e (ap (λ r. sets r (suc at) xs) (set_first (set d at y) ys at (suc at) x (omega arith) ∙ ap (λ r. sets r (suc at) ys) (set-set d at y x))
    ∙ (rw f at (sets_over (set d at x) xs ys (suc at) 0 (omega arith))))
sets_over d (x ∷ xs) ys at (suc k) h =
    let e : at + suc k ≡ suc at + k = omega arith in
    rw e (ap (λ r. sets r (suc at) xs) (set_first d ys at (suc at + k) x (omega arith)) ∙ sets_over (set d at x) xs ys (suc at) k (omega arith))

pub window-add : (s : List ℕ) (a n m : ℕ) → a + n ≤ length s → window s a (n + m) ≡ window s a n ++ window s (a + n) m
window-add s a zero m h =
    let e : a + 0 ≡ a = omega arith in
    let f : 0 + m ≡ m = omega arith in
    rw (e, f)
window-add s a (suc n) m h =
    let e : a + suc n ≡ suc a + n = omega arith in
    let f : suc n + m ≡ suc (n + m) = omega arith in
    rw (e, f, window-cons s a (n + m) (omega arith), window-cons s a n (omega arith)) (ap (λ r. byte_at s a ∷ r) (window-add s (suc a) n m (omega arith)))

-- a turn of a copy by m bytes at once: what is left to store gives what the whole does
pub copied : (s d : List ℕ) (a b n i m : ℕ) → i + m ≤ n → a + n ≤ length s
    → sets (sets d (b + i) (window s (a + i) m)) (b + (i + m)) (window s (a + (i + m)) (n - (i + m))) ≡ sets d (b + i) (window s (a + i) (n - i))
copied s d a b n i m h l =
    let k : n - i ≡ m + (n - (i + m)) = omega arith in
    let ea : a + (i + m) ≡ (a + i) + m = omega arith in
    let eb : b + (i + m) ≡ (b + i) + length (window s (a + i) m) = omega (arith, window-length s (a + i) m (omega arith)) in
    rw (k, ea, eb, window-add s (a + i) m (n - (i + m)) (omega arith)) (sets_then d (window s (a + i) m) (window s ((a + i) + m) (n - (i + m))) (b + i))

-- a byte at a time
pub copied_byte : (s d : List ℕ) (a b n i : ℕ) → i < n → a + n ≤ length s
    → sets (set d (b + i) (byte_at s (a + i))) (b + (i + 1)) (window s (a + (i + 1)) (n - (i + 1))) ≡ sets d (b + i) (window s (a + i) (n - i))
copied_byte s d a b n i h l = rw (window-cons s (a + i) 0 (omega arith)) at (copied s d a b n i 1 (omega arith) l)

-- the last m bytes stored again: what was stored before them is under the whole
pub copied-last : (s d d₀ : List ℕ) (a b n i m : ℕ) → m ≤ n → n - m ≤ i → i ≤ n → a + n ≤ length s
    → sets d (b + i) (window s (a + i) (n - i)) ≡ sets d₀ b (window s a n)
    → sets d (b + (n - m)) (window s (a + (n - m)) m) ≡ sets d₀ b (window s a n)
copied-last s d d₀ a b n i m h low high l inv =
    let rest = window s (a + i) (n - i) in
    let tail = window s (a + (n - m)) m in
    let front = window s a (n - m) in
    let lr : length rest ≡ n - i = window-length s (a + i) (n - i) (omega arith) in
    let lt : length tail ≡ m = window-length s (a + (n - m)) m (omega arith) in
    let lf : length front ≡ n - m = window-length s a (n - m) (omega arith) in
    let eb : b + i ≡ (b + (n - m)) + (i - (n - m)) = omega arith in
    let en : n ≡ (n - m) + m = omega arith in
    let whole : sets d₀ b (window s a n) ≡ sets (sets d₀ b front) (b + (n - m)) tail =
    ap (λ k. sets d₀ b (window s a k)) en ∙ ap (λ r. sets d₀ b r) (window-add s a (n - m) m (omega arith)) ∙ sym (sets_then d₀ front tail b) ∙ ap (λ k. sets (sets d₀ b front) (b + k) tail) lf in
    let z : (b + (n - m)) + 0 ≡ b + (n - m) = omega arith in
    sym (sets_over d tail rest (b + (n - m)) (i - (n - m)) (omega (arith, lr, lt)))
    ∙ ap (λ k. sets (sets d k rest) (b + (n - m)) tail) (sym eb)
    ∙ ap (λ r. sets r (b + (n - m)) tail) (inv ∙ whole)
    ∙ (rw z at (sets_over (sets d₀ b front) tail tail (b + (n - m)) 0 (omega arith)))
    ∙ sym whole

-- a run as long as what it is stored in
pub sets-all : (d xs : List ℕ) → length d ≡ length xs → sets d 0 xs ≡ xs
sets-all d xs e =
    let h : 0 + length xs ≤ length d = omega arith in
    let l : length d ≤ 0 + length xs = omega arith in
    sets-eq xs d 0 h ∙ rw (drop_of_length-le d l, append-nil xs)

-- a turn of a run of one value
pub filled : (d : List ℕ) (at n i v : ℕ) → i < n → sets (set d (at + i) v) (at + (i + 1)) (replicate (n - (i + 1)) v) ≡ sets d (at + i) (replicate (n - i) v)
filled d at n i v h =
    let k : n - i ≡ suc (n - (i + 1)) = omega arith in
    let e : at + (i + 1) ≡ suc (at + i) = omega arith in
    rw (k, e)

-- the bytes of a number, stored in two parts
pub store-add : (d : List ℕ) (at n m v : ℕ) → sets (sets d at (bytes_of n v)) (at + n) (bytes_of m (v / 256 ^ n)) ≡ sets d at (bytes_of (n + m) v)
store-add d at zero m v =
    let e : 0 + m ≡ m = omega arith in
    let f : v / 256 ^ 0 ≡ v = div-one v in
    rw (e, f, add-zero at)
store-add d at (suc n) m v =
    let e : suc n + m ≡ suc (n + m) = omega arith in
    let f : at + suc n ≡ suc at + n = omega arith in
    let g : v / 256 ^ suc n ≡ v / 256 / 256 ^ n = rw pow-succ' (sym (div-div-eq-div-mul v 256 (256 ^ n))) in
    rw (e, f, g) (store-add (set d at (v % 256)) (suc at) n m (v / 256))

-- ---- runs of several bytes at once

-- the bytes of the number that n bytes hold are these bytes
pub bytes-there : (s : List ℕ) (n at : ℕ) → Bytes s → at + n ≤ length s → bytes_of n (number_at s at n) ≡ window s at n
bytes-there s zero at small h = refl
bytes-there s (suc n) at small h =
    let b = small at in
    let low : (byte_at s at + 256 * number_at s (at + 1) n) % 256 ≡ byte_at s at = omega arith in
    let high : (byte_at s at + 256 * number_at s (at + 1) n) / 256 ≡ number_at s (at + 1) n = omega arith in
    let e : at + 1 ≡ suc at = omega arith in
    rw (low, high, e, window-cons s at n (omega arith)) (ap (λ r. byte_at s at ∷ r) (bytes-there s n (suc at) small (omega arith)))
