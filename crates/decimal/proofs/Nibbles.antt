-- Bytes in hex: how long they are, a turn of each loop, and that what is written is read back. Assumes nothing.
use mathlib.Core.Path.{◌≡◌, refl}
use mathlib.Core.Bool.{Bool, true, false, cond, ◌&&◌}
use mathlib.Core.List.{List, [], ◌∷◌, ◌++◌}
use Prim.Native.Nat.{ℕ, zero, suc, ◌+◌, ◌-◌, ◌*◌, ◌/◌, ◌%◌, ◌≤◌, ◌<◌}
use native.Mathlib.Omega.{arith}
use lib.ListN.{length, get_or, take, drop, set, length-take, length-drop}
use lib.Seq.{sets, get_or-take, get_or-drop, drop-drop}
use lib.Dec.{ltb, eqb}
use borrow.Author.Tests.{ltb-true, ltb-false}
use Rattle.lent.specs.Bytes.{byte_at, window}
use Rattle.lent.specs.Scan.{alike, every}
use Rattle.lent.proofs.Scan.{both}
use Rattle.lent.proofs.Stored.{window-cons}
use Rattle.decimal.specs.Hex.{glyph, nibble, hex, unhex}

-- ---- lengths

pub hex-length : (bs : List ℕ) → length (hex bs) ≡ 2 * length bs
unfolding hex
hex-length [] = refl
hex-length (b ∷ bs) = rw (hex-length bs) (omega arith)

-- ---- n bytes from a place on, as a part of a slice

pub part-length : (s : List ℕ) (from n : ℕ) → from + n ≤ length s → length (take (from + n - from) (drop from s)) ≡ n
part-length s from n h = omega (arith, length-take (from + n - from) (drop from s), length-drop from s)

pub part_at : (s : List ℕ) (from n i : ℕ) → i < n → get_or (take (from + n - from) (drop from s)) i 0 ≡ byte_at s (from + i)
part_at s from n i h =
    let m : from + n - from ≡ n = omega arith in
    rw (m, get_or-take n (drop from s) i 0 h) (get_or-drop from s i 0)

-- ---- turns: what is left gives what the whole does

module _ (s : List ℕ) (from n i : ℕ) (h : i < n) (fits : from + n ≤ length s) where
  next : window s (from + i) (n - i) ≡ byte_at s (from + i) ∷ window s (from + (i + 1)) (n - (i + 1))
  next =
      let k : n - i ≡ suc (n - (i + 1)) = omega arith in
      let e : from + (i + 1) ≡ suc (from + i) = omega arith in
      let lt : from + i < length s = omega arith in
      rw (k, e, window-cons s (from + i) (n - (i + 1)) lt)

  pub put-turn : (d all : List ℕ) (at : ℕ) → sets d (at + 2 * i) (hex (window s (from + i) (n - i))) ≡ all
      → sets (set (set d (at + 2 * i) (glyph (byte_at s (from + i) / 16))) ((at + 2 * i) + 1) (glyph (byte_at s (from + i) % 16))) (at + 2 * (i + 1)) (hex (window s (from + (i + 1)) (n - (i + 1)))) ≡ all
  unfolding hex
  put-turn d all at so =
      let e : (at + 2 * i) + 1 ≡ suc (at + 2 * i) = omega arith in
      let f : at + 2 * (i + 1) ≡ suc (suc (at + 2 * i)) = omega arith in
      rw (e, f) (rw next at so)

  module _ (t : List ℕ) (at : ℕ) (all : Bool) (room : at + 2 * n ≤ length t)
      (so : alike eqb (hex (window s (from + i) (n - i))) (window t (at + 2 * i) (2 * n - 2 * i)) ≡ all) where
    next-two : window t (at + 2 * i) (2 * n - 2 * i) ≡ byte_at t (at + 2 * i) ∷ byte_at t ((at + 2 * i) + 1) ∷ window t (at + 2 * (i + 1)) (2 * n - 2 * (i + 1))
    next-two =
        let k : 2 * n - 2 * i ≡ suc (suc (2 * n - 2 * (i + 1))) = omega arith in
        let e : (at + 2 * i) + 1 ≡ suc (at + 2 * i) = omega arith in
        let f : at + 2 * (i + 1) ≡ suc (suc (at + 2 * i)) = omega arith in
        let p : at + 2 * i < length t = omega arith in
        let q : suc (at + 2 * i) < length t = omega arith in
        rw (k, e, f, window-cons t (at + 2 * i) (suc (2 * n - 2 * (i + 1))) p, window-cons t (suc (at + 2 * i)) (2 * n - 2 * (i + 1)) q)

    turned : (eqb (glyph (byte_at s (from + i) / 16)) (byte_at t (at + 2 * i)) && (eqb (glyph (byte_at s (from + i) % 16)) (byte_at t ((at + 2 * i) + 1))
        && alike eqb (hex (window s (from + (i + 1)) (n - (i + 1)))) (window t (at + 2 * (i + 1)) (2 * n - 2 * (i + 1))))) ≡ all
    unfolding hex alike
    turned = rw (next, next-two) at so

    pub same-stops : (eqb (glyph (byte_at s (from + i) / 16)) (byte_at t (at + 2 * i)) && eqb (glyph (byte_at s (from + i) % 16)) (byte_at t ((at + 2 * i) + 1))) ≡ false → false ≡ all
    same-stops f = go (eqb (glyph (byte_at s (from + i) / 16)) (byte_at t (at + 2 * i))) (eqb (glyph (byte_at s (from + i) % 16)) (byte_at t ((at + 2 * i) + 1))) _ f turned where
      go : (a b r : Bool) → (a && b) ≡ false → (a && (b && r)) ≡ all → false ≡ all
      go true true r e z = let y : ◌≡◌ {A = Bool} true false = e in cc
      go true false r e z = z
      go false b r e z = z

    pub same-goes : (eqb (glyph (byte_at s (from + i) / 16)) (byte_at t (at + 2 * i)) && eqb (glyph (byte_at s (from + i) % 16)) (byte_at t ((at + 2 * i) + 1))) ≡ true
        → alike eqb (hex (window s (from + (i + 1)) (n - (i + 1)))) (window t (at + 2 * (i + 1)) (2 * n - 2 * (i + 1))) ≡ all
    same-goes f =
        let g = both (eqb (glyph (byte_at s (from + i) / 16)) (byte_at t (at + 2 * i))) (eqb (glyph (byte_at s (from + i) % 16)) (byte_at t ((at + 2 * i) + 1))) f in
        rw (g.0, g.1) at turned

pub take-turn : (t d all : List ℕ) (n i to : ℕ) → i < n → sets d (to + i) (unhex (n - i) (drop (2 * i) t)) ≡ all
    → sets (set d (to + i) (16 * nibble (byte_at t (2 * i)) + nibble (byte_at t (2 * i + 1)))) (to + (i + 1)) (unhex (n - (i + 1)) (drop (2 * (i + 1)) t)) ≡ all
unfolding unhex
take-turn t d all n i to h so =
    let k : n - i ≡ suc (n - (i + 1)) = omega arith in
    let e : to + (i + 1) ≡ suc (to + i) = omega arith in
    let a : 2 * i + 0 ≡ 2 * i = omega arith in
    let b : 2 * i + 2 ≡ 2 * (i + 1) = omega arith in
    let c : (2 * i + 1) + 0 ≡ 2 * i + 1 = omega arith in
    rw e (rw (k, get_or-drop (2 * i) t 0 0, a, drop-drop 1 (2 * i) t, drop-drop 2 (2 * i) t, b, get_or-drop (2 * i + 1) t 0 0, c) at so)

-- what is past 2 n characters is not read
pub unhex-take : (n : ℕ) (l : List ℕ) → unhex n (take (2 * n) l) ≡ unhex n l
unfolding unhex
unhex-take zero l = refl
unhex-take (suc n) [] = let e : 2 * suc n ≡ suc (suc (2 * n)) = omega arith in rw e
unhex-take (suc n) (a ∷ []) = let e : 2 * suc n ≡ suc (suc (2 * n)) = omega arith in rw e
unhex-take (suc n) (a ∷ b ∷ l) = let e : 2 * suc n ≡ suc (suc (2 * n)) = omega arith in rw (e, unhex-take n l)

pub unhex-length : (n : ℕ) (l : List ℕ) → length (unhex n l) ≡ n
unfolding unhex
unhex-length zero l = refl
unhex-length (suc n) l = rw (unhex-length n (drop 2 l))

-- ---- what is written is read back

nibble-glyph : (d : ℕ) → d < 16 → nibble (glyph d) ≡ d
nibble-glyph d h = go (ltb d 10) refl
  where
    go : (b : Bool) → ltb d 10 ≡ b → nibble (cond b (48 + d) (87 + d)) ≡ d
    go true t =
        let z : d < 10 = ltb-true d 10 t in
        let a : (48 + d) / 64 ≡ 0 = omega arith in
        let e : (48 + d) % 16 ≡ d = omega arith in
        rw (a, e) (omega arith)
    go false t =
        let z : 10 ≤ d = ltb-false d 10 t in
        let a : (87 + d) / 64 ≡ 1 = omega arith in
        let e : (87 + d) % 16 ≡ d - 9 = omega arith in
        rw (a, e) (omega arith)

pub hex-back : (bs l : List ℕ) → every (λ b. ltb b 256) bs ≡ true → unhex (length bs) (hex bs ++ l) ≡ bs
unfolding hex unhex every
hex-back [] l ok = refl
hex-back (b ∷ bs) l ok =
    let z = both (ltb b 256) (every (λ x. ltb x 256) bs) ok in
    let w : b < 256 = ltb-true b 256 z.0 in
    let e : 16 * (b / 16) + b % 16 ≡ b = omega arith in
    let f : b / 16 < 16 = omega arith in
    rw (nibble-glyph (b / 16) f, nibble-glyph (b % 16) (omega arith), e, hex-back bs l z.1)

pub hex-past : (bs l : List ℕ) → drop (2 * length bs) (hex bs ++ l) ≡ l
unfolding hex
hex-past [] l = refl
hex-past (b ∷ bs) l = let e : 2 * suc (length bs) ≡ suc (suc (2 * length bs)) = omega arith in rw e (hex-past bs l)
