-- The places of a table's fields, in whatever order, lie inside it. Assumes nothing.
use mathlib.Core.Path.{◌≡◌, refl, ap, ◌∙◌}
use mathlib.Core.Bool.{Bool, true}
use mathlib.Core.List.{List, [], ◌∷◌}
use Prim.Native.Nat.{ℕ, zero, suc, ◌+◌, ◌*◌, ◌≤◌, ◌<◌}
use native.Mathlib.Omega.{arith}
use borrow.Author.Tests.{le-leb, leb-true}
use lib.Dec.{leb}
use lib.ListN.{length, get_or, take, drop}
use Rattle.lent.specs.Scan.{every, gather, places}
use Rattle.lent.proofs.Scan.{both, entry}
use Rattle.field.specs.Order.{sort_by}
use Rattle.field.proofs.Kept.{every-sorted}

abbrev inside : ℕ → ℕ → Bool
inside m p = leb (p + 16) m

all-inside : (m from n : ℕ) → from + 16 * n ≤ m → every (inside m) (places 16 from n) ≡ true
unfolding every gather
all-inside m from zero h = refl
all-inside m from (suc n) h = rw (le-leb (from + 16) m (omega arith), all-inside m (from + 16) n (omega arith))

-- what every one passes, those from k on pass
rest : (test : ℕ → Bool) (k : ℕ) (xs : List ℕ) → every test xs ≡ true → every test (drop k xs) ≡ true
unfolding every
rest test zero xs e = e
rest test (suc k) [] e = refl
rest test (suc k) (x ∷ xs) e = rest test k xs (both (test x) (every test xs) e).1

pub placed : (key : ℕ → ℕ) (o : List ℕ) (n k m : ℕ) → n ≤ length o → k < n → 16 * n ≤ m → take n o ≡ sort_by key (places 16 0 n) → get_or o k 0 + 16 ≤ m
unfolding every
placed key o n k m fits h within sorted =
    let z : every (inside m) (take n o) ≡ true = ap (every (inside m)) sorted ∙ every-sorted key (inside m) (places 16 0 n) ∙ all-inside m 0 n (omega arith) in
    let y : every (inside m) (drop k (take n o)) ≡ true = rest (inside m) k (take n o) z in
    let x : every (inside m) (get_or o k 0 ∷ drop (k + 1) (take n o)) ≡ true = rw (entry o n k fits h) at y in
    leb-true (get_or o k 0 + 16) m (both (inside m (get_or o k 0)) (every (inside m) (drop (k + 1) (take n o))) x).0
