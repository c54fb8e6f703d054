-- Heads that lie near, and the first and the last of them. Assumes nothing.
use mathlib.Core.Path.{◌≡◌, refl}
use mathlib.Core.Bool.{Bool, true, false, cond}
use mathlib.Core.List.{List, [], ◌∷◌}
use Prim.Native.Nat.{ℕ, zero, suc, ◌+◌, ◌*◌, ◌<◌}
use native.Mathlib.Nat.{mul-suc}
use native.Mathlib.Omega.{arith}
use borrow.Author.Tests.{ltb-true, lt-ltb}
use Rattle.std.specs.Prelude.{Option, Some, None}
use Rattle.lent.specs.Scan.{places, gather, every, first, last}
use Rattle.lent.proofs.Scan.{both}
use Rattle.std.specs.Iterator.{YieldsFirst}
use Rattle.std.proofs.lemmas.Iterator.{YieldsList}
use Rattle.std.proofs.lemmas.Iterator.Consumers.{YieldsList-from_first}
use Rattle.layout.specs.Find.{near, Near}

-- heads whose last end lies near
pub places-near : (step at n : ℕ) → at + step * n < 10000000 → every near (places step at n) ≡ true
unfolding gather every
places-near step at zero h = refl
places-near step at (suc n) h =
    let e : step * suc n ≡ step * n + step = mul-suc step n in
    rw (lt-ltb at 10000000 (omega arith)) (places-near step (at + step) n (omega arith))

module _ (test : ℕ → Bool) where
  pub Near-first : (hs : List ℕ) → every near hs ≡ true → Near (first test Some None hs)
  unfolding every first
  Near-first [] e = tt
  Near-first (h ∷ hs) e =
      let here = both (near h) (every near hs) e in go (ltb-true h 10000000 here.0) (Near-first hs here.1) (test h) where
        go : h < 10000000 → Near (first test Some None hs) → (b : Bool) → Near (cond b (Some h) (first test Some None hs))
        go here later true = here
        go here later false = later

  pub Near-last : (found : Option ℕ) (hs : List ℕ) → Near found → every near hs ≡ true → Near (last test Some found hs)
  unfolding every last
  Near-last found [] n e = n
  Near-last found (h ∷ hs) n e =
      let here = both (near h) (every near hs) e in
      Near-last (cond (test h) (Some h) found) hs (go (ltb-true h 10000000 here.0) (test h)) here.1 where
        go : h < 10000000 → (b : Bool) → Near (cond b (Some h) found)
        go here true = here
        go here false = n

-- the heads of a block yield their places
pub YieldsList-from_heads : {s hs : List ℕ} → s ≡ hs → YieldsList (YieldsFirst (λ (heads : List ℕ). heads)) (λ (h : ℕ). h) s hs
YieldsList-from_heads {hs = hs} e = YieldsList-from_first (λ (h : ℕ). h) (λ (heads : List ℕ). heads) hs e
