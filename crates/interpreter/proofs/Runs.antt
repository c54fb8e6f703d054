-- One step, by its case, and a turn over the steps of a slot. Assumes nothing.
use mathlib.Core.Path.{◌≡◌, refl}
use mathlib.Core.Bool.{Bool, true, not, ◌&&◌, ◌||◌}
use mathlib.Core.List.{List, [], ◌∷◌}
use Prim.Native.Nat.{ℕ, ◌+◌, ◌≤◌, ◌<◌}
use native.Mathlib.Omega.{arith}
use lib.Dec.{leb, ltb, eqb}
use lib.ListN.{length, drop, length-drop}
use lib.Seq.{sets, length-take-le}
use borrow.Author.Tests.{le-leb, lt-leb, leb-true}
use Rattle.lent.specs.Bytes.{window}
use Rattle.lent.specs.Scan.{every}
use Rattle.lent.proofs.Bytes.{length-bytes_of}
use Rattle.lent.proofs.Scan.{both}
use Rattle.limits.specs.Limits.{max_bytes}
use Rattle.catalogue.specs.Catalogue.{is_width}
use Rattle.step.specs.Step.{source_of, takes, gives, end_of, step_ok, widths_ok, within, steps_ok}
use Rattle.step.specs.declared.Op.{Op}
use Rattle.step.specs.declared.Op.TheVariants.{Copy, Int}
use Rattle.step.specs.declared.Step.{Step}
use Rattle.interpreter.specs.Run.{carried, fits, run_step, run}

module _ (s : Step) (source target n : ℕ) (e : s.op ≡ Copy source target n) where
  pub copy-fits : (w : ℕ) → fits w s ≡ true → target + n ≤ w
  copy-fits w f = leb-true (target + n) w (both (not (eqb n 0) && leb (source + n) max_bytes) (leb (target + n) w) (rw e at f)).1

  module _ (src dst : List ℕ) (a k : ℕ) (ea : a ≡ source) (ek : k ≡ n) where
    pub copy-runs : (b : ℕ) → b ≡ target → a + k ≤ length src → sets dst b (window src a k) ≡ run_step src s dst
    unfolding run_step
    copy-runs b eb h = rw (e, ← ea, ← eb, ← ek, le-leb (a + k) (length src) h)

    pub copy-skips : length src < a + k → dst ≡ run_step src s dst
    unfolding run_step
    copy-skips h = rw (e, ← ea, ← ek, lt-leb (a + k) (length src) h)

module _ (s : Step) (source target n m : ℕ) (signed marked : Bool) (e : s.op ≡ Int source target n m signed marked) where
  pub int-fits : (w : ℕ) → fits w s ≡ true → ((is_width n ≡ true) × (is_width m ≡ true)) × (target + m ≤ w)
  int-fits w f =
      let all = both (widths_ok n m marked && leb (source + n) max_bytes) (leb (target + m) w) (rw e at f) in
      let widths = both (is_width n) (is_width m && (not (eqb n m) && (marked || ltb n m))) (both (widths_ok n m marked) (leb (source + n) max_bytes) all.0).0 in
      ((widths.0, (both (is_width m) (not (eqb n m) && (marked || ltb n m)) widths.1).0), leb-true (target + m) w all.1)

  module _ (src dst : List ℕ) (a k : ℕ) (ea : a ≡ source) (ek : k ≡ n) where
    pub int-runs : (b j : ℕ) → b ≡ target → j ≡ m → a + k ≤ length src → sets dst b (carried src (Int a b k j signed marked)) ≡ run_step src s dst
    unfolding run_step
    int-runs b j eb ej h = rw (e, ← ea, ← eb, ← ek, ← ej, le-leb (a + k) (length src) h)

    pub int-skips : length src < a + k → dst ≡ run_step src s dst
    unfolding run_step
    int-skips h = rw (e, ← ea, ← ek, lt-leb (a + k) (length src) h)

-- a step that is not skipped carries as many bytes as it gives
pub length-carried : (src : List ℕ) (s : Step) → source_of s + takes s ≤ length src → length (carried src s.op) ≡ gives s
length-carried src s h = go s.op h where
  go : (op : Op) → source_of (record { op = op }) + takes (record { op = op }) ≤ length src → length (carried src op) ≡ gives (record { op = op })
  go (Copy source target size) h = length-take-le size (drop source src) (omega (arith, length-drop source src))
  go (Int source target from to signed marked) h = length-bytes_of to _

-- ---- a turn over steps
module _ {left : List Step} where
  pub next_fits : (w : ℕ) {s : Step} {others : List Step} → left ≡ s ∷ others → every (fits w) left ≡ true → (fits w s ≡ true) × (every (fits w) others ≡ true)
  unfolding every
  next_fits w {s = s} {others = others} e f = both (fits w s) (every (fits w) others) (rw e at f)

  module _ (src dst : List ℕ) {all : List ℕ} (so : run src left dst ≡ all) where
    pub run-turn : {s : Step} {others : List Step} (d : List ℕ) → left ≡ s ∷ others → d ≡ run_step src s dst → run src others d ≡ all
    unfolding run
    run-turn d e ed = rw ed (rw e at so)

    pub run_end : left ≡ [] → dst ≡ all
    unfolding run
    run_end e = rw e at so

-- what keeps the rules of a plan fits its record
pub all_fit : (low high w : ℕ) (ss : List Step) → high ≤ w → steps_ok low high ss ≡ true → every (fits w) ss ≡ true
unfolding steps_ok every
all_fit low high w [] h e = refl
all_fit low high w (s ∷ ss) h e =
    let parts = both (step_ok s && within low high s) (steps_ok (end_of s) high ss) e in
    let one = both (step_ok s) (within low high s) parts.0 in
    let end : end_of s ≤ high = leb-true (end_of s) high (both (leb low _) (leb (end_of s) high) one.1).1 in
    rw (one.0, le-leb (end_of s) w (omega arith), all_fit (end_of s) high w ss h parts.1)
