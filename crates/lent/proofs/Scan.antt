-- A turn of a loop that scans and counts down what is left. Assumes nothing.
use mathlib.Core.Path.{◌≡◌, refl, sym, ap}
use mathlib.Core.Bool.{Bool, true, false, cond, ◌&&◌, false≢true}
use mathlib.Core.List.{List, [], ◌∷◌}
use Prim.Native.Nat.{ℕ, zero, suc, ◌+◌, ◌-◌, ◌*◌, ◌≤◌, ◌<◌, max}
use native.Mathlib.Nat.{not-suc-le-zero, mul-suc}
use lib.ListN.{length, take, drop, get_or, drop_of_length-le, length-take}
use lib.Pointwise.{pointwise}
use lib.Seq.{drop-cons, get_or-take, length-take-le}
use native.Mathlib.Omega.{arith}
use Rattle.lent.specs.Scan.{gather, every, some, first, last, alike, tally, highest, places}

-- as many as there are places
pub gathered-length : {A : Type 0} (read : ℕ → A) (step at n : ℕ) → length (gather read step at n) ≡ n
unfolding gather
gathered-length read step at zero = refl
gathered-length read step at (suc n) = ap suc (gathered-length read step (at + step) n)

module _ {A : Type 0} (read : ℕ → A) (step at n : ℕ) where
  -- something is left: the first, and the rest
  pub turn : 0 < n → gather read step at n ≡ read at ∷ gather read step (at + step) (n - 1)
  unfolding gather
  turn h = let e : n ≡ suc (n - 1) = omega arith in ap (λ (m : ℕ). gather read step at m) e

  -- nothing is left
  pub none : n ≡ 0 → gather read step at n ≡ []
  unfolding gather
  none e = ap (λ (m : ℕ). gather read step at m) e

  module _ (test : A → Bool) (all : Bool) (so : every test (gather read step at n) ≡ all) where
    -- the test fails: so does all
    pub stops : 0 < n → test (read at) ≡ false → false ≡ all
    unfolding every
    stops h f = rw (turn h, f) at so

    -- the test holds: the rest decides
    pub goes : 0 < n → test (read at) ≡ true → every test (gather read step (at + step) (n - 1)) ≡ all
    unfolding every
    goes h f = rw (turn h, f) at so

    pub ends : n ≡ 0 → true ≡ all
    unfolding every
    ends e = rw (none e) at so

  module _ (test : A → Bool) (any : Bool) (so : some test (gather read step at n) ≡ any) where
    -- the test holds: that is enough
    pub finds : 0 < n → test (read at) ≡ true → true ≡ any
    unfolding some
    finds h f = rw (turn h, f) at so

    -- it fails: the rest decides
    pub seeks : 0 < n → test (read at) ≡ false → some test (gather read step (at + step) (n - 1)) ≡ any
    unfolding some
    seeks h f = rw (turn h, f) at so

    pub lacks : n ≡ 0 → false ≡ any
    unfolding some
    lacks e = rw (none e) at so

  module _ {B : Type 0} (test : A → Bool) (give : A → B) (missing all : B) where
    module _ (so : first test give missing (gather read step at n) ≡ all) where
      -- the first is found
      pub first-here : 0 < n → test (read at) ≡ true → give (read at) ≡ all
      unfolding first
      first-here h f = rw (turn h, f) at so

      pub first-later : 0 < n → test (read at) ≡ false → first test give missing (gather read step (at + step) (n - 1)) ≡ all
      unfolding first
      first-later h f = rw (turn h, f) at so

      pub first-nowhere : n ≡ 0 → missing ≡ all
      unfolding first
      first-nowhere e = rw (none e) at so

    module _ (so : last test give missing (gather read step at n) ≡ all) where
      -- what was found last so far goes along
      pub last_turn : 0 < n → last test give (cond (test (read at)) (give (read at)) missing) (gather read step (at + step) (n - 1)) ≡ all
      unfolding last
      last_turn h = rw (turn h) at so

      pub last-known : n ≡ 0 → missing ≡ all
      unfolding last
      last-known e = rw (none e) at so

  module _ (test : A → Bool) (good all : Bool) (so : (good && every test (gather read step at n)) ≡ all) where
    -- no way out: what was found so far goes along
    pub gathers : 0 < n → ((good && test (read at)) && every test (gather read step (at + step) (n - 1))) ≡ all
    unfolding every
    gathers h = go good (rw (turn h) at so) where
      go : (g : Bool) → (g && (test (read at) && every test (gather read step (at + step) (n - 1)))) ≡ all
          → ((g && test (read at)) && every test (gather read step (at + step) (n - 1))) ≡ all
      go true e = e
      go false e = e

    pub gathered : n ≡ 0 → good ≡ all
    unfolding every
    gathered e = go good (rw (none e) at so) where
      go : (g : Bool) → (g && true) ≡ all → g ≡ all
      go true z = z
      go false z = z

  module _ (test : A → Bool) (m all : ℕ) (so : m + tally test (gather read step at n) ≡ all) where
    -- one more is counted
    pub counts : 0 < n → (t : ℕ) → t ≡ cond (test (read at)) 1 0 → (m + t) + tally test (gather read step (at + step) (n - 1)) ≡ all
    unfolding tally
    counts h t et =
        let z : m + (cond (test (read at)) 1 0 + tally test (gather read step (at + step) (n - 1))) ≡ all = rw (turn h) at so in
        omega arith

    pub counted : n ≡ 0 → m ≡ all
    unfolding tally
    counted e = let z : m + 0 ≡ all = rw (none e) at so in omega arith

  module _ (number : A → ℕ) (most all : ℕ) (so : max most (highest number (gather read step at n)) ≡ all) where
    -- the largest so far goes along
    pub highest-goes : 0 < n → max (max most (number (read at))) (highest number (gather read step (at + step) (n - 1))) ≡ all
    unfolding highest
    highest-goes h =
        let z : max most (max (number (read at)) (highest number (gather read step (at + step) (n - 1)))) ≡ all = rw (turn h) at so in
        omega arith

    pub highest-found : n ≡ 0 → most ≡ all
    unfolding highest
    highest-found e = let z : max most 0 ≡ all = rw (none e) at so in omega arith

pub small : (t : ℕ) (b : Bool) → t ≡ cond b 1 0 → t ≤ 1
small t true e = omega arith
small t false e = omega arith

-- places at which a test holds may be passed over
pub passes : (test : ℕ → Bool) (at n m : ℕ) → ((j : ℕ) → at ≤ j → j < at + m → test j ≡ true) → every test (places 1 (at + m) (n - m)) ≡ every test (places 1 at n)
unfolding gather every
passes test at n zero h =
    let e : at + 0 ≡ at = omega arith in
    let f : n - 0 ≡ n = omega arith in
    rw (e, f)
passes test at zero (suc m) h =
    let f : 0 - suc m ≡ 0 = omega arith in
    rw f
passes test at (suc n) (suc m) h =
    let e : at + suc m ≡ (at + 1) + m = omega arith in
    let f : suc n - suc m ≡ n - m = omega arith in
    rw (e, f, h at (omega arith) (omega arith)) (passes test (at + 1) n m (λ j low high. h j (omega arith) (omega arith)))

-- a count may be taken in two parts
pub tally-add : {A : Type 0} (test : A → Bool) (read : ℕ → A) (at n m : ℕ)
    → tally test (gather read 1 at (n + m)) ≡ tally test (gather read 1 at n) + tally test (gather read 1 (at + n) m)
unfolding gather tally
tally-add test read at zero m =
    let e : at + 0 ≡ at = omega arith in
    let f : 0 + m ≡ m = omega arith in
    rw (e, f) (omega arith)
tally-add test read at (suc n) m =
    let e : suc n + m ≡ suc (n + m) = omega arith in
    let f : at + suc n ≡ (at + 1) + n = omega arith in
    let ih = tally-add test read (at + 1) n m in
    rw (e, f) (omega arith)

-- what is left of a list from k on: the one there, and the rest
pub next : (s : List ℕ) (k : ℕ) → k < length s → drop k s ≡ get_or s k 0 ∷ drop (k + 1) s
next s k h = let e : k + 1 ≡ suc k = omega arith in rw e (drop-cons s k 0 h)

-- and of the first n
pub entry : (o : List ℕ) (n k : ℕ) → n ≤ length o → k < n → drop k (take n o) ≡ get_or o k 0 ∷ drop (k + 1) (take n o)
entry o n k fits h =
    let i : k < length (take n o) = omega (arith, length-take-le n o fits) in
    rw (← get_or-take n o k 0 h) (next (take n o) k i)

pub no-entry : {A : Type 0} (o : List A) (n k : ℕ) → n ≤ k → drop k (take n o) ≡ []
no-entry o n k h = let i : length (take n o) ≤ k = simp length-take (omega arith) in drop_of_length-le (take n o) i

-- two lists, pair by pair
module _ {A B : Type 0} (test : A → B → Bool) (all : Bool) where
  module _ (xs : List A) (ys : List B) (so : alike test xs ys ≡ all) where
    module _ (x : A) (xs' : List A) (y : B) (ys' : List B) (ex : xs ≡ x ∷ xs') (ey : ys ≡ y ∷ ys') where
      pair_turn : (test x y && alike test xs' ys') ≡ all
      unfolding alike
      pair_turn = rw (ex, ey) at so

      pub pair-stops : test x y ≡ false → false ≡ all
      pair-stops f = rw f at pair_turn

      pub pair_goes : test x y ≡ true → alike test xs' ys' ≡ all
      pair_goes f = rw f at pair_turn

    pub pairs_end : xs ≡ [] → ys ≡ [] → true ≡ all
    unfolding alike
    pairs_end ex ey = rw (ex, ey) at so

and-false : (a : Bool) → (a && false) ≡ false
and-false true = refl
and-false false = refl

pub and-true : (a : Bool) → (a && true) ≡ a
and-true true = refl
and-true false = refl

-- lists of two lengths are not alike
pub unlike : {A B : Type 0} (test : A → B → Bool) (xs : List A) (ys : List B) → (length xs ≡ length ys → ⊥) → false ≡ alike test xs ys
unfolding alike
unlike test [] [] h = absurd (h refl)
unlike test [] (y ∷ ys) h = refl
unlike test (x ∷ xs) [] h = refl
unlike test (x ∷ xs) (y ∷ ys) h =
    rw (← unlike test xs ys (λ e. h (ap suc e))) (sym (and-false (test x y)))

-- both of two tests pass
pub both : (a b : Bool) → (a && b) ≡ true → (a ≡ true) × (b ≡ true)
both true b e = (refl, e)
both false b e = absurd (false≢true e)

-- what every one passes, the one at place k passes
pub nth : {A : Type 0} (test : A → Bool) (read : ℕ → A) (step at n k : ℕ) → k < n → every test (gather read step at n) ≡ true → test (read (at + step * k)) ≡ true
unfolding gather every
nth test read step at zero k h e = absurd (not-suc-le-zero h)
nth test read step at (suc n) zero h e =
    let z : at + step * 0 ≡ at = omega arith in
    rw z (both (test (read at)) (every test (gather read step (at + step) n)) e).0
nth test read step at (suc n) (suc k) h e =
    let z : at + step * suc k ≡ (at + step) + step * k = simp mul-suc (omega arith) in
    rw z (nth test read (step) (at + step) n k (omega arith) (both (test (read at)) (every test (gather read step (at + step) n)) e).1)

-- the library's comparison of two lists is the same
pub alike-is : {A : Type 0} (test : A → A → Bool) (xs ys : List A) → pointwise test xs ys ≡ alike test xs ys
unfolding alike
alike-is test [] [] = refl
alike-is test [] (y ∷ ys) = refl
alike-is test (x ∷ xs) [] = refl
alike-is test (x ∷ xs) (y ∷ ys) = ap (λ (b : Bool). test x y && b) (alike-is test xs ys)
