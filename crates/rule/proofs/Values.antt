-- The field rule's body, field by field. Assumes nothing.
use Prim.Native.Nat.{ℕ, zero, suc, ◌+◌, ◌-◌, ◌≤◌, ◌<◌}
use native.Mathlib.Decide.{dec_lt}
use native.Mathlib.Omega.{arith}
use mathlib.Core.Path.{◌≡◌, refl, sym, ap, ◌∙◌, subst}
use mathlib.Core.Bool.{Bool, true, false, cond, ◌&&◌}
use mathlib.Core.List.{List, [], ◌∷◌, ◌++◌, Memᴰ}
use borrow.Author.Tests.{leb-true, le-leb, lt-ltb, le-ltb}
use lib.Dec.{leb, ltb}
use lib.ListN.{length, drop, length-drop, length-append, get_or-append}
use lib.Seq.{length-take-le, get_or-take, get_or-drop, get_or-append-add, ext_get_or}
use Rattle.lent.specs.Bytes.{byte_at, number_at, window}
use Rattle.lent.specs.Scan.{every, first}
use Rattle.lent.proofs.Scan.{both}
use Rattle.field.specs.Field.{end_of, counts}
use Rattle.field.specs.declared.FieldDef.{FieldDef}
use Rattle.table_rules.specs.Table.{clear_of, apart}
use Rattle.table_rules.proofs.Bytes.{Covers, clear}
use Rattle.step.specs.Step.{source_of, takes, target_of, gives}
use Rattle.step.specs.declared.Step.{Step}
use Rattle.plan_rules.specs.Rule.{Want, step_of}
use Rattle.std.specs.declared.option.Option.{Option}
use Rattle.std.specs.Prelude.{Some, None}
use Rattle.interpreter.specs.Run.{carried, reaches}
use Rattle.rule.specs.Bytewise.{step_byte}
use Rattle.rule.specs.Body.{defs, holds, carried_byte, rule_byte, value_of}
use Rattle.interpreter.proofs.Runs.{length-carried}
use Rattle.rule.proofs.Planned.{If, Within, step_of-within, holds-is, holds_not}

-- ---- the byte of a field is that of its own step

pub every-at : (p : FieldDef → Bool) {w : Want} {ws : List Want} → Memᴰ w ws → every p (defs ws) ≡ true → p w.def ≡ true
unfolding every
every-at p (Memᴰ.head {x = x} {xs = xs} e) k = ap (λ (v : Want). p v.def) e ∙ (both (p x.def) (every p (defs xs)) k).0
every-at p (Memᴰ.tail {x = x} {xs = xs} m) k = every-at p m (both (p x.def) (every p (defs xs)) k).1

pub rule-in : (cat : List ℕ) (haves : List FieldDef) {w : Want} {ws : List Want} (src : List ℕ) (i old : ℕ) → apart (defs ws) ≡ true → Memᴰ w ws → Covers w.def i
    → rule_byte cat haves ws src i old ≡ carried_byte src (step_of cat haves w) i old
unfolding apart rule_byte first
rule-in cat haves {w = w} src i old e (Memᴰ.head {x = x} {xs = xs} p) h =
    go (holds x.def i) (holds_not x.def i) ∙ ap (λ (v : Want). carried_byte src (step_of cat haves v) i old) (sym p)
  where
    go : (b : Bool) → (b ≡ false → Covers x.def i → ⊥)
        → cond b (carried_byte src (step_of cat haves x) i old) (rule_byte cat haves xs src i old) ≡ carried_byte src (step_of cat haves x) i old
    go true f = refl
    go false f = absurd (f refl (subst (λ (v : Want). Covers v.def i) p h))
rule-in cat haves {w = w} src i old e (Memᴰ.tail {x = x} {xs = xs} m) h =
    let a = both (every (clear_of x.def) (defs xs)) (apart (defs xs)) e in
    go (holds x.def i) (holds-is x.def i) (every-at (clear_of x.def) m a.0) (rule-in cat haves src i old a.1 m h)
  where
    go : (b : Bool) → (b ≡ true → Covers x.def i) → clear_of x.def w.def ≡ true
        → rule_byte cat haves xs src i old ≡ carried_byte src (step_of cat haves w) i old
        → cond b (carried_byte src (step_of cat haves x) i old) (rule_byte cat haves xs src i old) ≡ carried_byte src (step_of cat haves w) i old
    go true f a ih = absurd (clear x.def w.def i a (f refl) h)
    go false f a ih = ih

-- a byte of no field that counts is the default's
pub rule-out : (cat : List ℕ) (haves : List FieldDef) (ws : List Want) (src : List ℕ) (i old : ℕ)
    → ((w : Want) → Memᴰ w ws → counts cat w.def ≡ true → Covers w.def i → ⊥) → rule_byte cat haves ws src i old ≡ old
unfolding rule_byte first step_of
rule-out cat haves [] src i old h = refl
rule-out cat haves (w ∷ ws) src i old h =
    go (holds w.def i) (counts cat w.def) (holds-is w.def i) (h w (Memᴰ.head refl)) _ (rule-out cat haves ws src i old (λ v m. h v (Memᴰ.tail m)))
  where
    go : (b n : Bool) → (b ≡ true → Covers w.def i) → (n ≡ true → Covers w.def i → ⊥) → (c : Option Step) → rule_byte cat haves ws src i old ≡ old
        → cond b (carried_byte src (cond n c None) i old) (rule_byte cat haves ws src i old) ≡ old
    go true true f g c ih = absurd (g refl (f refl))
    go true false f g c ih = refl
    go false n f g c ih = ih

-- ---- the bytes of a field together

value-length : (src : List ℕ) (f : FieldDef) (c : Option Step) (default : List ℕ) → If (Within f) c → length default ≡ f.size → length (value_of src c default) ≡ f.size
value-length src f None default w e = e
value-length src f (Some s) default w e = go (reaches src s) (leb-true (source_of s + takes s) (length src)) where
  go : (p : Bool) → (p ≡ true → source_of s + takes s ≤ length src) → length (cond p (carried src s.op ++ drop (gives s) default) default) ≡ f.size
  go true h =
      let l = length-carried src s (h refl) in
      omega (arith, length-append (carried src s.op) (drop (gives s) default), length-drop (gives s) default)
  go false h = e

value-byte : (src : List ℕ) (f : FieldDef) (c : Option Step) (default : List ℕ) (j : ℕ) → If (Within f) c → length default ≡ f.size → j < f.size
    → byte_at (value_of src c default) j ≡ carried_byte src c (f.offset + j) (byte_at default j)
unfolding step_byte
value-byte src f None default j w e h = refl
value-byte src f (Some s) default j w e h = go (reaches src s) (leb-true (source_of s + takes s) (length src)) where
  at-end : f.offset + j - target_of s ≡ j
  at-end = omega arith

  go : (p : Bool) → (p ≡ true → source_of s + takes s ≤ length src)
      → byte_at (cond p (carried src s.op ++ drop (gives s) default) default) j
      ≡ cond (p && (leb (target_of s) (f.offset + j) && ltb (f.offset + j) (target_of s + gives s))) (byte_at (carried src s.op) (f.offset + j - target_of s)) (byte_at default j)
  go false k = refl
  go true k =
      let l : length (carried src s.op) ≡ gives s = length-carried src s (k refl) in
      elim (dec_lt j (gives s)) [
        | yes q ↦ rw (le-leb (target_of s) (f.offset + j) (omega arith), lt-ltb (f.offset + j) (target_of s + gives s) (omega arith), at-end)
            (get_or-append (carried src s.op) (drop (gives s) default) 0 j (omega arith))
        | no q ↦ rw (le-leb (target_of s) (f.offset + j) (omega arith), le-ltb (f.offset + j) (target_of s + gives s) (omega arith))
            (ap (λ (n : ℕ). byte_at (carried src s.op ++ drop (gives s) default) n) (omega arith)
            ∙ get_or-append-add (carried src s.op) (drop (gives s) default) (j - gives s) 0
            ∙ get_or-drop (gives s) default (j - gives s) 0 ∙ ap (byte_at default) (omega arith))
      ]

-- a list whose bytes are the rule's has, at a field, the field's value
pub value-at : (cat : List ℕ) (haves : List FieldDef) (ws : List Want) (w : Want) (src all default : List ℕ) → apart (defs ws) ≡ true → Memᴰ w ws
    → end_of w.def ≤ length all → length default ≡ w.def.size
    → ((j : ℕ) → j < w.def.size → byte_at all (w.def.offset + j) ≡ rule_byte cat haves ws src (w.def.offset + j) (byte_at default j))
    → window all w.def.offset w.def.size ≡ value_of src (step_of cat haves w) default
value-at cat haves ws w src all default e m inside l each =
    let f = w.def in
    let c = step_of cat haves w in
    let n : length (window all f.offset f.size) ≡ f.size = length-take-le f.size (drop f.offset all) (omega (arith, length-drop f.offset all)) in
    ext_get_or 0 (window all f.offset f.size) (value_of src c default) (n ∙ sym (value-length src f c default (step_of-within cat haves w) l))
    (λ j h. at_byte j (omega arith))
  where
    at_byte : (j : ℕ) → j < w.def.size → byte_at (window all w.def.offset w.def.size) j ≡ byte_at (value_of src (step_of cat haves w) default) j
    at_byte j h =
        get_or-take w.def.size (drop w.def.offset all) j 0 h ∙ get_or-drop w.def.offset all j 0
        ∙ each j h ∙ rule-in cat haves src (w.def.offset + j) (byte_at default j) e m (record { from = omega arith; to = omega arith })
        ∙ sym (value-byte src w.def (step_of cat haves w) default j (step_of-within cat haves w) l h)

-- ---- the number of a window is that of its bytes, and the number at the front of a list that of the front

window-number : (s : List ℕ) (at m j n : ℕ) → j + n ≤ m → number_at (window s at m) j n ≡ number_at s (at + j) n
window-number s at m j zero h = refl
window-number s at m j (suc n) h =
    let b : byte_at (window s at m) j ≡ byte_at s (at + j) = get_or-take m (drop at s) j 0 (omega arith) ∙ get_or-drop at s j 0 in
    let e : at + j + 1 ≡ at + (j + 1) = omega arith in
    rw (b, e, window-number s at m (j + 1) n (omega arith))

pub number-window : (s : List ℕ) (at m n : ℕ) → n ≤ m → number_at (window s at m) 0 n ≡ number_at s at n
number-window s at m n h = let e : at + 0 ≡ at = omega arith in window-number s at m 0 n (omega arith) ∙ ap (λ (k : ℕ). number_at s k n) e

pub number-front : (s t : List ℕ) (j n : ℕ) → j + n ≤ length s → number_at (s ++ t) j n ≡ number_at s j n
number-front s t j zero h = refl
number-front s t j (suc n) h = rw (get_or-append s t 0 j (omega arith), number-front s t (j + 1) n (omega arith))
