-- Fields that lie one behind the other: they lie apart and in bounds, and cover each byte once. Assumes nothing.
use mathlib.Core.Path.{◌≡◌, refl}
use mathlib.Core.Bool.{Bool, true, false, cond, ◌&&◌}
use mathlib.Core.List.{List, [], ◌∷◌, ◌++◌}
use Prim.Native.Nat.{ℕ, ◌+◌, ◌≤◌, ◌<◌}
use native.Mathlib.Omega.{arith}
use borrow.Author.Tests.{eq-eqb, eqb-true, lt-ltb, le-ltb, ltb-true, le-leb, lt-leb, ltb-false}
use lib.Dec.{leb, ltb, eqb}
use Rattle.lent.specs.Scan.{every, tally}
use Rattle.lent.proofs.Scan.{both}
use Rattle.field.specs.Field.{end_of}
use Rattle.field.specs.declared.FieldDef.{FieldDef}
use Rattle.table_rules.specs.Table.{in_bounds}
use Rattle.table_rules.specs.Parts.{chain}
use Rattle.sound.specs.Sound.{tiles, covers}

-- what the first of them and the rest are
module _ (from to : ℕ) (f : FieldDef) (fs : List FieldDef) (e : tiles from to (f ∷ fs) ≡ true) where
  both3 : (eqb f.offset from ≡ true) × ((ltb 0 f.size && tiles (end_of f) to fs) ≡ true)
  unfolding tiles
  both3 = both (eqb f.offset from) (ltb 0 f.size && tiles (end_of f) to fs) e

  starts : f.offset ≡ from
  starts = eqb-true f.offset from both3.0

  sized : 0 < f.size
  sized = ltb-true 0 f.size (both (ltb 0 f.size) (tiles (end_of f) to fs) both3.1).0

  rest : tiles (end_of f) to fs ≡ true
  rest = (both (ltb 0 f.size) (tiles (end_of f) to fs) both3.1).1

-- one more
pub tiles_more : (from to : ℕ) (fs : List FieldDef) (f : FieldDef) → tiles from to fs ≡ true → f.offset ≡ to → 0 < f.size → tiles from (end_of f) (fs ++ f ∷ []) ≡ true
unfolding tiles
tiles_more from to [] f e o s =
    let d : from ≡ to = eqb-true from to e in
    rw (eq-eqb f.offset from (omega arith), lt-ltb 0 f.size s, eq-eqb (end_of f) (end_of f) refl)
tiles_more from to (g ∷ fs) f e o s =
    rw (
      eq-eqb g.offset from (starts from to g fs e),
      lt-ltb 0 g.size (sized from to g fs e),
      tiles_more (end_of g) to fs f (rest from to g fs e) o s,
    )

pub tiles-ends : (from to : ℕ) (fs : List FieldDef) → tiles from to fs ≡ true → from ≤ to
unfolding tiles
tiles-ends from to [] e = let d : from ≡ to = eqb-true from to e in omega arith
tiles-ends from to (f ∷ fs) e =
    let a = starts from to f fs e in
    let l = tiles-ends (end_of f) to fs (rest from to f fs e) in
    omega arith

pub tiles-chain : (from to : ℕ) (fs : List FieldDef) → tiles from to fs ≡ true → chain from fs ≡ true
unfolding tiles chain
tiles-chain from to [] e = refl
tiles-chain from to (f ∷ fs) e =
    let a = starts from to f fs e in
    rw (le-leb from f.offset (omega arith)) (tiles-chain (end_of f) to fs (rest from to f fs e))

pub tiles-bounds : (from to most : ℕ) (fs : List FieldDef) → to ≤ most → tiles from to fs ≡ true → every (in_bounds most) fs ≡ true
unfolding tiles every
tiles-bounds from to most [] h e = refl
tiles-bounds from to most (f ∷ fs) h e =
    let l = tiles-ends (end_of f) to fs (rest from to f fs e) in
    rw (lt-ltb 0 f.size (sized from to f fs e), le-leb (end_of f) most (omega arith)) (tiles-bounds (end_of f) to most fs h (rest from to f fs e))

-- every byte from `from` to `to` lies in one, and no other byte in any
none_before : (i from to : ℕ) (fs : List FieldDef) → i < from → tiles from to fs ≡ true → tally (covers i) fs ≡ 0
unfolding tiles tally
none_before i from to [] h e = refl
none_before i from to (f ∷ fs) h e =
    let a = starts from to f fs e in
    rw (lt-leb f.offset i (omega arith), none_before i (end_of f) to fs (omega arith) (rest from to f fs e))

pub tiles-once : (i from to : ℕ) (fs : List FieldDef) → from ≤ i → tiles from to fs ≡ true → tally (covers i) fs ≡ cond (ltb i to) 1 0
unfolding tiles tally
tiles-once i from to [] h e =
    let d : from ≡ to = eqb-true from to e in
    rw (le-ltb i to (omega arith))
tiles-once i from to (f ∷ fs) h e =
    go (ltb i (end_of f)) (ltb-true i (end_of f)) (ltb-false i (end_of f)) (starts from to f fs e) (rest from to f fs e)
    (λ k. tiles-once i (end_of f) to fs k (rest from to f fs e)) where
      go : (p : Bool) → (p ≡ true → i < end_of f) → (p ≡ false → end_of f ≤ i) → f.offset ≡ from → tiles (end_of f) to fs ≡ true
          → (end_of f ≤ i → tally (covers i) fs ≡ cond (ltb i to) 1 0)
          → cond (leb f.offset i && p) 1 0 + tally (covers i) fs ≡ cond (ltb i to) 1 0
      go true lt ge a r ih =
          let k = lt refl in
          let l = tiles-ends (end_of f) to fs r in
          rw (le-leb f.offset i (omega arith), none_before i (end_of f) to fs k r, lt-ltb i to (omega arith))
      go false lt ge a r ih =
          let k = ge refl in
          rw (le-leb f.offset i (omega arith), ← ih k) (omega arith)

-- what one more passes too
pub every_more : {A : Type 0} (p : A → Bool) (xs : List A) (x : A) → every p xs ≡ true → p x ≡ true → every p (xs ++ x ∷ []) ≡ true
unfolding every
every_more p [] x e h = rw h
every_more p (y ∷ xs) x e h =
    let z = both (p y) (every p xs) e in
    rw z.0 (every_more p xs x z.1 h)
