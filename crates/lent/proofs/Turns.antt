-- A turn of a loop over a list: what is left is the one at hand and the others, or nothing. Assumes nothing.
use mathlib.Core.Path.{◌≡◌}
use mathlib.Core.Bool.{Bool, true, false, cond, ◌&&◌}
use mathlib.Core.List.{List, [], ◌∷◌}
use Prim.Native.Nat.{ℕ, ◌+◌, max}
use native.Mathlib.Omega.{arith}
use Rattle.lent.specs.Scan.{every, some, first, last, tally, highest}

module _ {A : Type 0} {left : List A} where
  module _ {all : Bool} (test : A → Bool) (so : every test left ≡ all) where
    -- the test fails: so does all
    pub every-stops : {x : A} {others : List A} → left ≡ x ∷ others → test x ≡ false → false ≡ all
    unfolding every
    every-stops e f = rw (e, f) at so

    -- the test holds: the others decide
    pub every-goes : {x : A} {others : List A} → left ≡ x ∷ others → test x ≡ true → every test others ≡ all
    unfolding every
    every-goes e f = rw (e, f) at so

    pub every-ends : left ≡ [] → true ≡ all
    unfolding every
    every-ends e = rw e at so

  module _ {any : Bool} (test : A → Bool) (so : some test left ≡ any) where
    -- the test holds: that is enough
    pub some-stops : {x : A} {others : List A} → left ≡ x ∷ others → test x ≡ true → true ≡ any
    unfolding some
    some-stops e f = rw (e, f) at so

    -- it fails: the others decide
    pub some-goes : {x : A} {others : List A} → left ≡ x ∷ others → test x ≡ false → some test others ≡ any
    unfolding some
    some-goes e f = rw (e, f) at so

    pub some-ends : left ≡ [] → false ≡ any
    unfolding some
    some-ends e = rw e at so

  module _ {B : Type 0} (test : A → Bool) (give : A → B) (none : B) {all : B} where
    module _ (so : first test give none left ≡ all) where
      -- the first is found
      pub first-stops : {x : A} {others : List A} → left ≡ x ∷ others → test x ≡ true → give x ≡ all
      unfolding first
      first-stops e f = rw (e, f) at so

      pub first-goes : {x : A} {others : List A} → left ≡ x ∷ others → test x ≡ false → first test give none others ≡ all
      unfolding first
      first-goes e f = rw (e, f) at so

      pub first-ends : left ≡ [] → none ≡ all
      unfolding first
      first-ends e = rw e at so

    module _ (so : last test give none left ≡ all) where
      -- what was found last so far goes along
      pub last-goes : {x : A} {others : List A} → left ≡ x ∷ others → last test give (cond (test x) (give x) none) others ≡ all
      unfolding last
      last-goes e = rw e at so

      pub last-ends : left ≡ [] → none ≡ all
      unfolding last
      last-ends e = rw e at so

  module _ {all : Bool} (test : A → Bool) (good : Bool) (so : (good && every test left) ≡ all) where
    -- no way out: what was found so far goes along
    pub all-goes : {x : A} {others : List A} → left ≡ x ∷ others → ((good && test x) && every test others) ≡ all
    unfolding every
    all-goes {x = x} {others = others} e = go good (rw e at so) where
      go : (g : Bool) → (g && (test x && every test others)) ≡ all → ((g && test x) && every test others) ≡ all
      go true z = z
      go false z = z

    pub all-ends : left ≡ [] → good ≡ all
    unfolding every
    all-ends e = go good (rw e at so) where
      go : (g : Bool) → (g && true) ≡ all → g ≡ all
      go true z = z
      go false z = z

  module _ {all : ℕ} (test : A → Bool) (m : ℕ) (so : m + tally test left ≡ all) where
    -- one more is counted
    pub tally-goes : {x : A} {others : List A} → left ≡ x ∷ others → (t : ℕ) → t ≡ cond (test x) 1 0 → (m + t) + tally test others ≡ all
    unfolding tally
    tally-goes {x = x} {others = others} e t et =
        let z : m + (cond (test x) 1 0 + tally test others) ≡ all = rw e at so in
        omega arith

    pub tally-ends : left ≡ [] → m ≡ all
    unfolding tally
    tally-ends e = let z : m + 0 ≡ all = rw e at so in omega arith

  module _ {all : ℕ} (number : A → ℕ) (most : ℕ) (so : max most (highest number left) ≡ all) where
    -- the largest so far goes along
    pub highest-goes : {x : A} {others : List A} → left ≡ x ∷ others → max (max most (number x)) (highest number others) ≡ all
    unfolding highest
    highest-goes {x = x} {others = others} e =
        let z : max most (max (number x) (highest number others)) ≡ all = rw e at so in
        omega arith

    pub highest-ends : left ≡ [] → most ≡ all
    unfolding highest
    highest-ends e = let z : max most 0 ≡ all = rw e at so in omega arith
