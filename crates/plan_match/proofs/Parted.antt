-- A text compared part by part with what would be written. Assumes nothing.
use mathlib.Core.Path.{◌≡◌, refl, sym, ap, ◌∙◌}
use mathlib.Core.Bool.{Bool, true, false, cond, ◌&&◌}
use Rattle.std.specs.Prelude.{Some, None}
use mathlib.Core.List.{List, [], ◌∷◌, ◌++◌, append_assoc}
use Prim.Native.Nat.{ℕ, zero, suc, ◌+◌, ◌-◌, ◌*◌, ◌≤◌, ◌<◌}
use native.Mathlib.Omega.{arith}
use lib.ListN.{length, take, drop, replicate, length-replicate, drop_of_length-le}
use lib.Seq.{drop-drop, drop-cons}
use lib.Dec.{eqb}
use Rattle.lent.specs.Bytes.{byte_at, number_at, window}
use Rattle.lent.specs.Scan.{alike}
use Rattle.lent.proofs.Scan.{unlike}
use Rattle.step.specs.declared.Step.{Step}
use Rattle.slot.specs.Slot.{body_from, header_in, size_in}
use Rattle.decimal.specs.Put.{Put}
use Rattle.decimal.specs.Hex.{hex}
use Rattle.decimal.proofs.Puts.{put-start}
use Rattle.lent.proofs.Bytes.{window-length}
use Rattle.decimal.proofs.Nibbles.{hex-length}
use Rattle.plan_text.specs.Text.{newline, body_line, step_line, step_lines}
use Rattle.plan_text.specs.Held.{Held, tabbed, head_in}
use Rattle.plan_text.specs.Writing.{text_in}
use Rattle.plan_text.proofs.Laid.{wide-most, tabbed-length, head-length, lines-turn, lines-none}
use Rattle.plan_text.proofs.Whole.{body_in, steps_in, text-parts, text-length, body-wide}
use Rattle.plan_match.specs.Stands.{stood, body_stands}

-- ---- two parts

regroup : (a b c : Bool) → ((a && b) && c) ≡ (a && (b && c))
regroup true b c = refl
regroup false b c = refl

alike-parts : (a b t : List ℕ) → alike eqb (a ++ b) t ≡ (alike eqb a (take (length a) t) && alike eqb b (drop (length a) t))
unfolding alike
alike-parts [] b t = refl
alike-parts (x ∷ a) b [] = refl
alike-parts (x ∷ a) b (y ∷ t) = rw (alike-parts a b t) (sym (regroup (eqb x y) _ _))

pub alike_at : (a b t : List ℕ) (at : ℕ) → alike eqb (a ++ b) (drop at t) ≡ (alike eqb a (window t at (length a)) && alike eqb b (drop (at + length a) t))
alike_at a b t at = alike-parts a b (drop at t) ∙ rw (drop-drop (length a) at t)

-- ---- a line that was put into room of its own

pub put-in-line : {line : List ℕ} {n : ℕ} {what : List ℕ} (k : ℕ) → Put (replicate k 0) 0 what line n → length what ≤ k → take n line ≡ what
put-in-line k p h = put-start p (rw (length-replicate {A = ℕ} k 0) h)

module _ (line t : List ℕ) (at : ℕ) where
  module _ (b : Bool) (e : b ≡ alike eqb line (window t at (length line))) where
    pub not-stood : b ≡ false → None ≡ stood line t at
    not-stood f = rw (← e, f)

    pub stood-there : (n : ℕ) → n ≡ length line → b ≡ true → Some n ≡ stood line t at
    stood-there n w f = rw (← e, f, w)

  pub stood-some : {n : ℕ} → Some n ≡ stood line t at → (alike eqb line (window t at (length line)) ≡ true) × (n ≡ length line)
  stood-some {n = n} = go (alike eqb line (window t at (length line))) refl where
    go : (b : Bool) → alike eqb line (window t at (length line)) ≡ b → Some n ≡ cond b (Some (length line)) None → (alike eqb line (window t at (length line)) ≡ true) × (n ≡ length line)
    go true e z = (e, cc)
    go false e z = absurd (let y : ◌≡◌ {A = ℕ} 0 1 = cc in let x : ⊥ = omega arith in x)

  pub stood-none : None ≡ stood line t at → alike eqb line (window t at (length line)) ≡ false
  stood-none = go (alike eqb line (window t at (length line))) refl where
    go : (b : Bool) → alike eqb line (window t at (length line)) ≡ b → None ≡ cond b (Some (length line)) None → alike eqb line (window t at (length line)) ≡ false
    go true e z = absurd (let y : ◌≡◌ {A = ℕ} 0 1 = cc in let x : ⊥ = omega arith in x)
    go false e z = e

tabbed-most : (slot : List ℕ) (at n : ℕ) → length (tabbed slot at n) ≤ 6 * n
unfolding tabbed
tabbed-most slot at zero = omega arith
tabbed-most slot at (suc n) =
    let e : suc n - 1 ≡ n = omega arith in
    let l = rw e at (tabbed-length slot at (suc n) (omega arith)) in
    let w = wide-most (number_at slot at 2) in
    let ih = tabbed-most slot (at + 2) n in
    omega arith

pub head-most : (slot : List ℕ) → length (head_in slot) ≤ 49
head-most slot = omega (arith, head-length slot, tabbed-most slot 0 6, wide-most (number_at slot 12 2))

-- ---- a turn over the steps

module _ {left : List Step} (t : List ℕ) (next : ℕ) {all : Bool} (so : alike eqb (step_lines left) (drop next t) ≡ all) where
  turned : {s : Step} {others : List Step} → left ≡ s ∷ others
      → (alike eqb (step_line s.op) (window t next (length (step_line s.op))) && alike eqb (step_lines others) (drop (next + length (step_line s.op)) t)) ≡ all
  turned {s = s} {others = others} e = sym (alike_at (step_line s.op) (step_lines others) t next) ∙ (rw (lines-turn e) at so)

  pub steps-stop : {s : Step} {others : List Step} → left ≡ s ∷ others → None ≡ stood (step_line s.op) t next → false ≡ all
  steps-stop {s = s} e n = let z = turned e in rw (stood-none (step_line s.op) t next n) at z

  pub steps-go : {s : Step} {others : List Step} (wide : ℕ) → left ≡ s ∷ others → Some wide ≡ stood (step_line s.op) t next → alike eqb (step_lines others) (drop (next + wide) t) ≡ all
  steps-go {s = s} wide e n =
      let f = stood-some (step_line s.op) t next n in
      let z = turned e in
      rw f.1 (rw f.0 at z)

  pub steps-end : left ≡ [] → length t ≤ next → true ≡ all
  unfolding alike
  steps-end e h = rw (lines-none e, drop_of_length-le t {i = next} h) at so

-- ---- the whole text

module _ (slot t : List ℕ) (h : Held slot) (long : length t ≡ length (text_in slot)) where
  abbrev n : ℕ
  n = size_in slot - header_in slot

  abbrev at : ℕ
  at = length (head_in slot)

  body-parts : alike eqb (body_line (body_in slot) ++ steps_in slot) (drop at t) ≡ (body_stands (body_in slot) n t at && alike eqb (steps_in slot) (drop (((at + 5) + 2 * n) + 1) t))
  unfolding body_line alike
  body-parts =
      let l : length (hex (body_in slot)) ≡ 2 * n = hex-length (body_in slot) ∙ rw (window-length slot body_from n (omega (arith, h.long, h.most))) in
      let tl = text-length slot h in
      let bw = body-wide slot h in
      let lt : (at + 5) + 2 * n < length t = omega arith in
      let su : ((at + 5) + 2 * n) + 1 ≡ suc ((at + 5) + 2 * n) = omega arith in
      let one = alike_at (98 ∷ 111 ∷ 100 ∷ 121 ∷ 9 ∷ []) ((hex (body_in slot) ++ (newline ∷ [])) ++ steps_in slot) t at in
      let two = alike_at (hex (body_in slot)) (newline ∷ steps_in slot) t (at + 5) in
      one ∙ rw (append_assoc (hex (body_in slot)) (newline ∷ []) (steps_in slot), two, l, drop-cons t ((at + 5) + 2 * n) 0 lt, su)
      (shuffle (alike eqb (98 ∷ 111 ∷ 100 ∷ 121 ∷ 9 ∷ []) (window t at 5)) (alike eqb (hex (body_in slot)) (window t (at + 5) (2 * n)))
      (eqb newline (byte_at t ((at + 5) + 2 * n))) (alike eqb (steps_in slot) (drop (suc ((at + 5) + 2 * n)) t)))
    where
      shuffle : (a b c d : Bool) → (a && (b && (c && d))) ≡ ((a && (b && c)) && d)
      shuffle true true c d = refl
      shuffle true false c d = refl
      shuffle false b c d = refl

  parted : alike eqb (text_in slot) t ≡ (alike eqb (head_in slot) (window t 0 at) && (body_stands (body_in slot) n t at && alike eqb (steps_in slot) (drop (((at + 5) + 2 * n) + 1) t)))
  parted =
      let z : 0 + at ≡ at = omega arith in
      ap (λ (l : List ℕ). alike eqb l t) (text-parts slot) ∙ alike_at (head_in slot) (body_line (body_in slot) ++ steps_in slot) t 0 ∙ rw (z, body-parts)

  pub text-stops : (a b : Bool) → a ≡ alike eqb (head_in slot) (window t 0 at) → b ≡ body_stands (body_in slot) n t at → (a && b) ≡ false → false ≡ alike eqb (text_in slot) t
  text-stops a b ea eb f = rw (parted, ← ea, ← eb) (go a b (alike eqb (steps_in slot) (drop (((at + 5) + 2 * n) + 1) t)) f) where
    go : (x y r : Bool) → (x && y) ≡ false → false ≡ (x && (y && r))
    go true true r e = absurd (let z : ◌≡◌ {A = ℕ} 0 1 = cc in let y : ⊥ = omega arith in y)
    go true false r e = refl
    go false y r e = refl

  pub text-goes : (a b r : Bool) (next : ℕ) → a ≡ alike eqb (head_in slot) (window t 0 at) → b ≡ body_stands (body_in slot) n t at → (a && b) ≡ true
      → next ≡ ((at + 5) + 2 * n) + 1 → r ≡ alike eqb (steps_in slot) (drop next t) → r ≡ alike eqb (text_in slot) t
  text-goes a b r next ea eb f en er = rw (parted, ← ea, ← eb, ← en, ← er) (go a b f) where
    go : (x y : Bool) → (x && y) ≡ true → r ≡ (x && (y && r))
    go true true e = refl
    go true false e = absurd (let z : ◌≡◌ {A = ℕ} 0 1 = cc in let y : ⊥ = omega arith in y)
    go false y e = absurd (let z : ◌≡◌ {A = ℕ} 0 1 = cc in let y : ⊥ = omega arith in y)

pub text-unlike : (slot t : List ℕ) (n : ℕ) → n ≡ length (text_in slot) → (length t ≡ n → ⊥) → false ≡ alike eqb (text_in slot) t
text-unlike slot t n e h = unlike eqb (text_in slot) t (λ z. h (sym z ∙ sym e))
