-- Fields that follow each other lie apart, and the order that they stand in does not matter to that. Assumes nothing.
use mathlib.Core.Path.{◌≡◌, refl, sym, ap, ◌∙◌}
use mathlib.Core.Bool.{Bool, true, false, cond, not, ◌&&◌}
use mathlib.Core.List.{List, [], ◌∷◌}
use Prim.Native.Nat.{ℕ, ◌≤◌, ◌<◌, min, max}
use native.Mathlib.Omega.{arith}
use borrow.Author.Tests.{leb-true, le-leb, lt-leb, le-ltb}
use lib.Dec.{leb}
use Rattle.lent.specs.Scan.{every}
use Rattle.lent.proofs.Scan.{both}
use Rattle.field.specs.Field.{end_of}
use Rattle.field.specs.declared.FieldDef.{FieldDef}
use Rattle.field.proofs.Kept.{every-insert, every-sorted}
use Rattle.field.specs.Order.{insert_by, sort_by, offset_of, by_offset}
use Rattle.table_rules.specs.Table.{clear_of, apart}
use Rattle.table_rules.specs.Parts.{chain}

-- ---- fields that follow each other lie apart

clear-after : (f g : FieldDef) → end_of f ≤ g.offset → clear_of f g ≡ true
clear-after f g h = ap not (le-ltb (max f.offset g.offset) (min (end_of f) (end_of g)) (omega arith))

clear-of-rest : (f : FieldDef) (low : ℕ) (gs : List FieldDef) → end_of f ≤ low → chain low gs ≡ true → every (clear_of f) gs ≡ true
unfolding chain every
clear-of-rest f low [] h e = refl
clear-of-rest f low (g ∷ gs) h e =
    let z = both (leb low g.offset) (chain (end_of g) gs) e in
    let k : low ≤ g.offset = leb-true low g.offset z.0 in
    rw (clear-after f g (omega arith)) (clear-of-rest f (end_of g) gs (omega arith) z.1)

pub chain-apart : (low : ℕ) (gs : List FieldDef) → chain low gs ≡ true → apart gs ≡ true
unfolding chain apart
chain-apart low [] e = refl
chain-apart low (g ∷ gs) e =
    let z = both (leb low g.offset) (chain (end_of g) gs) e in
    rw (clear-of-rest g (end_of g) gs (omega arith) z.1) (chain-apart (end_of g) gs z.1)

-- ---- the order does not matter

swap : (a b c d : Bool) → ((a && b) && (c && d)) ≡ ((a && c) && (b && d))
swap true true c d = refl
swap true false true d = refl
swap true false false d = refl
swap false b c d = refl

clear-sym : (f g : FieldDef) → clear_of f g ≡ clear_of g f
clear-sym f g =
    let e : max f.offset g.offset ≡ max g.offset f.offset = omega arith in
    let d : min (end_of f) (end_of g) ≡ min (end_of g) (end_of f) = omega arith in
    rw (e, d)

module _ (key : FieldDef → ℕ) where
  apart-insert : (f : FieldDef) (gs : List FieldDef) → apart (insert_by key f gs) ≡ (every (clear_of f) gs && apart gs)
  unfolding every insert_by apart
  apart-insert f [] = refl
  apart-insert f (g ∷ gs) = go (apart-insert f gs) (leb (key f) (key g)) where
    go : apart (insert_by key f gs) ≡ (every (clear_of f) gs && apart gs)
        → (t : Bool) → apart (cond t (f ∷ g ∷ gs) (g ∷ insert_by key f gs)) ≡ ((clear_of f g && every (clear_of f) gs) && (every (clear_of g) gs && apart gs))
    go ih true = refl
    go ih false =
        rw (every-insert key (clear_of g) f gs, ih, clear-sym g f)
        (swap (clear_of f g) (every (clear_of g) gs) (every (clear_of f) gs) (apart gs))

  pub apart-sorted : (fs : List FieldDef) → apart (sort_by key fs) ≡ apart fs
  unfolding sort_by apart
  apart-sorted [] = refl
  apart-sorted (f ∷ fs) = apart-insert f (sort_by key fs) ∙ rw (every-sorted key (clear_of f) fs, apart-sorted fs)

-- fields that follow each other in offset order lie apart
pub chained : (fs : List FieldDef) → chain 0 (by_offset fs) ≡ true → true ≡ apart fs
chained fs e = sym (chain-apart 0 (by_offset fs) e) ∙ apart-sorted offset_of fs

-- ---- a turn of the loop over fields that follow each other

module _ {left : List FieldDef} {all : Bool} (low : ℕ) (so : chain low left ≡ all) where
  pub chain-stops : {f : FieldDef} {fs : List FieldDef} → left ≡ f ∷ fs → f.offset < low → false ≡ all
  unfolding chain
  chain-stops e h = rw (e, lt-leb _ _ h) at so

  pub chain-goes : {f : FieldDef} {fs : List FieldDef} → left ≡ f ∷ fs → low ≤ f.offset → chain (end_of f) fs ≡ all
  unfolding chain
  chain-goes e h = rw (e, le-leb _ _ h) at so

  pub chain-ends : left ≡ [] → true ≡ all
  unfolding chain
  chain-ends e = rw e at so
