-- How long the lines are, and what they begin with. Assumes nothing.
use mathlib.Core.Path.{◌≡◌, refl, ap, ◌∙◌}
use mathlib.Core.Bool.{Bool}
use mathlib.Core.List.{List, [], ◌∷◌, ◌++◌, append_assoc, append-nil}
use Prim.Native.Nat.{ℕ, suc, ◌+◌, ◌-◌, ◌*◌, ◌≤◌, ◌<◌}
use native.Mathlib.Nat.{mul-suc}
use native.Mathlib.Omega.{arith}
use lib.ListN.{length, length-append}
use Rattle.lent.specs.Bytes.{number_at}
use Rattle.lent.proofs.Scan.{gathered-length}
use Rattle.step.specs.Packed.{step_at, steps_at}
use Rattle.decimal.specs.Decimal.{place, decimal, cell}
use Rattle.decimal.specs.Hex.{hex}
use Rattle.decimal.proofs.Numbers.{cell-length, decimal-most}
use Rattle.decimal.proofs.Nibbles.{hex-length}
use Rattle.step.specs.declared.Step.{Step}
use Rattle.step.specs.declared.Op.{Op}
use Rattle.step.specs.declared.Op.TheVariants.{Copy, Int}
use Rattle.plan_text.specs.Text.{tab, newline, head_line, body_line, step_line, step_lines}
use Rattle.plan_text.specs.Held.{tabbed, head_in}

-- a cell's length is its number's and one
abbrev pub wide : ℕ → ℕ
wide n = length (decimal n) + 1

pub wide-most : (n : ℕ) → wide n ≤ 6
wide-most n = omega (arith, decimal-most n)

cells : (n end : ℕ) (l : List ℕ) → length (cell n end ++ l) ≡ wide n + length l
cells n end l = length-append (cell n end) l ∙ rw (cell-length n end)

-- the line begins `plan`, a tab, `1`, a tab
pub head-starts : (a b c d e f g : ℕ) → head_line a b c d e f g
    ≡ (112 ∷ 108 ∷ 97 ∷ 110 ∷ 9 ∷ 49 ∷ 9 ∷ []) ++ (cell a tab ++ (cell b tab ++ (cell c tab ++ (cell d tab ++ (cell e tab ++ (cell f tab ++ cell g newline))))))
unfolding head_line cell decimal place
head-starts a b c d e f g = refl

-- the numbers of a slot stand in the order of the line
six : (a b c d e f g : List ℕ) → a ++ (b ++ (c ++ (d ++ (e ++ (f ++ g))))) ≡ (a ++ (b ++ (c ++ (d ++ (e ++ (f ++ [])))))) ++ g
six a b c d e f g = simp (append_assoc, append-nil)

pub head-laid : (slot : List ℕ) → head_in slot ≡ ((112 ∷ 108 ∷ 97 ∷ 110 ∷ 9 ∷ 49 ∷ 9 ∷ []) ++ tabbed slot 0 6) ++ cell (number_at slot 12 2) newline
unfolding tabbed
head-laid slot =
    head-starts (number_at slot 0 2) (number_at slot 2 2) (number_at slot 4 2) (number_at slot 6 2) (number_at slot 8 2) (number_at slot 10 2) (number_at slot 12 2)
    ∙ ap (λ (l : List ℕ). 112 ∷ 108 ∷ 97 ∷ 110 ∷ 9 ∷ 49 ∷ 9 ∷ l)
    (six (cell (number_at slot 0 2) tab) (cell (number_at slot 2 2) tab) (cell (number_at slot 4 2) tab) (cell (number_at slot 6 2) tab) (cell (number_at slot 8 2) tab) (cell (number_at slot 10 2) tab) (cell (number_at slot 12 2) newline))

pub head-length : (slot : List ℕ) → length (head_in slot) ≡ 7 + length (tabbed slot 0 6) + wide (number_at slot 12 2)
head-length slot =
    rw (head-laid slot, length-append ((112 ∷ 108 ∷ 97 ∷ 110 ∷ 9 ∷ 49 ∷ 9 ∷ []) ++ tabbed slot 0 6) (cell (number_at slot 12 2) newline), cell-length (number_at slot 12 2) newline)
    (omega arith)

-- a turn over them
tabbed-turn : (slot : List ℕ) (at n : ℕ) → 0 < n → tabbed slot at n ≡ cell (number_at slot at 2) tab ++ tabbed slot (at + 2) (n - 1)
unfolding tabbed
tabbed-turn slot at n h = let e : n ≡ suc (n - 1) = omega arith in ap (λ (m : ℕ). tabbed slot at m) e

pub tabbed-length : (slot : List ℕ) (at n : ℕ) → 0 < n → length (tabbed slot at n) ≡ wide (number_at slot at 2) + length (tabbed slot (at + 2) (n - 1))
tabbed-length slot at n h = ap length (tabbed-turn slot at n h) ∙ cells (number_at slot at 2) tab (tabbed slot (at + 2) (n - 1))

-- the same at the kth of n
pub tabbed-next : (slot : List ℕ) (k n : ℕ) → k < n → tabbed slot (2 * k) (n - k) ≡ cell (number_at slot (2 * k) 2) tab ++ tabbed slot (2 * (k + 1)) (n - (k + 1))
tabbed-next slot k n h =
    let at : 2 * (k + 1) ≡ 2 * k + 2 = omega arith in
    let left : n - (k + 1) ≡ n - k - 1 = omega arith in
    rw (at, left) (tabbed-turn slot (2 * k) (n - k) (omega arith))

pub tabbed-wide : (slot : List ℕ) (k n : ℕ) → k < n → length (tabbed slot (2 * k) (n - k)) ≡ wide (number_at slot (2 * k) 2) + length (tabbed slot (2 * (k + 1)) (n - (k + 1)))
tabbed-wide slot k n h = ap length (tabbed-next slot k n h) ∙ cells (number_at slot (2 * k) 2) tab (tabbed slot (2 * (k + 1)) (n - (k + 1)))

pub tabbed-none : (slot : List ℕ) (at n : ℕ) → n ≡ 0 → tabbed slot at n ≡ []
unfolding tabbed
tabbed-none slot at n e = rw e

pub body-length : (body : List ℕ) → length (body_line body) ≡ 6 + 2 * length body
unfolding body_line
body-length body = rw (length-append (hex body) (newline ∷ []), hex-length body) (omega arith)

pub copy-length : (a b n : ℕ) → length (step_line (Copy a b n)) ≡ 5 + (wide a + (wide b + wide n))
unfolding step_line
copy-length a b n = rw (cells a tab, cells b tab, cell-length n newline) (omega arith)

pub int-length : (a b n m : ℕ) (s k : Bool) → length (step_line (Int a b n m s k)) ≡ 8 + (wide a + (wide b + (wide n + wide m)))
unfolding step_line
int-length a b n m s k = rw (cells a tab, cells b tab, cells n tab, cells m tab) (omega arith)

pub step-most : (op : Op) → length (step_line op) ≤ 32
step-most (Copy a b n) = omega (arith, copy-length a b n, wide-most a, wide-most b, wide-most n)
step-most (Int a b n m s k) = omega (arith, int-length a b n m s k, wide-most a, wide-most b, wide-most n, wide-most m)

-- a turn over the steps
module _ {left : List Step} where
  pub lines-turn : {s : Step} {others : List Step} → left ≡ s ∷ others → step_lines left ≡ step_line s.op ++ step_lines others
  unfolding step_lines
  lines-turn e = rw e

  pub lines-length : {s : Step} {others : List Step} → left ≡ s ∷ others → length (step_lines left) ≡ length (step_line s.op) + length (step_lines others)
  lines-length {s = s} {others = others} e = ap length (lines-turn e) ∙ length-append (step_line s.op) (step_lines others)

  pub lines-none : left ≡ [] → step_lines left ≡ []
  unfolding step_lines
  lines-none e = rw e

pub lines-most : (ss : List Step) → length (step_lines ss) ≤ 32 * length ss
unfolding step_lines
lines-most [] = omega arith
lines-most (s ∷ ss) =
    let l = length-append (step_line s.op) (step_lines ss) in
    let m = step-most s.op in
    let ih = lines-most ss in
    let t : 32 * suc (length ss) ≡ 32 + 32 * length ss = simp mul-suc (omega arith) in
    omega arith

-- of n steps that stand packed
pub packed-lines-most : (slot : List ℕ) (at n : ℕ) → length (step_lines (steps_at slot at n)) ≤ 32 * n
packed-lines-most slot at n = rw (gathered-length (step_at slot) 16 at n) at (lines-most (steps_at slot at n))
