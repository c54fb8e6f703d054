-- The planner's steps give the field rule's byte. Assumes nothing.
use Prim.Native.Nat.{ℕ, ◌≤◌}
use native.Mathlib.Omega.{arith}
use mathlib.Core.Path.{◌≡◌, refl, sym, ap, ◌∙◌}
use mathlib.Core.Bool.{Bool, true, false, cond, ◌&&◌, ◌||◌, false≢true}
use mathlib.Core.List.{List, [], ◌∷◌}
use borrow.Author.Tests.{leb-true, ltb-true, le-leb, lt-ltb}
use lib.Dec.{leb, ltb}
use lib.ListN.{length}
use Rattle.lent.specs.Scan.{every, first}
use Rattle.lent.proofs.Scan.{both}
use Rattle.field.specs.Field.{end_of, counts, is_string, is_signed}
use Rattle.field.specs.declared.FieldDef.{FieldDef}
use Rattle.field.specs.Order.{insert_by, sort_by, offset_of}
use Rattle.field.proofs.Kept.{every-sorted}
use Rattle.field.proofs.Mapped.{sort-map}
use Rattle.table_rules.specs.Table.{clear_of, apart}
use Rattle.table_rules.proofs.Bytes.{Covers, clear}
use Rattle.table_rules.proofs.Chained.{apart-sorted}
use Rattle.step.specs.Step.{copy, int, target_of, gives}
use Rattle.step.specs.declared.Step.{Step}
use Rattle.field.specs.Pair.{same_kind, apart as unlike, same_sign}
use Rattle.plan_rules.specs.Rule.{Want, same_id, step_for, step_of}
use Rattle.steps.specs.Steps.{before, steps_of, offset_of_want, in_target_order, planned_steps}
use Rattle.std.specs.declared.option.Option.{Option}
use Rattle.std.specs.Prelude.{Some, None}
use Rattle.rule.specs.Bytewise.{run_byte}
use Rattle.rule.specs.Body.{defs, holds, carried_byte, rule_byte}
use Rattle.rule.specs.Recut.{Recut, back, then}
use Rattle.rule.proofs.Stores.{step-out}
use Rattle.rule.proofs.Cuts.{recut-byte, join_all-recut}

-- ---- what holds of a field's step, if it has one

abbrev pub If : (Step → Type 0) → Option Step → Type 0
If P None = Unit {0}
If P (Some s) = P s

pub if-cond : (P : Step → Type 0) (b : Bool) (x y : Option Step) → (b ≡ true → If P x) → (b ≡ false → If P y) → If P (cond b x y)
if-cond P true x y f g = f refl
if-cond P false x y f g = g refl

-- of the first source field's, where it holds of each that is good
pub if-first : {A : Type 0} (P : Step → Type 0) (good test : A → Bool) (give : A → Option Step) (xs : List A) → ((x : A) → good x ≡ true → If P (give x))
    → every good xs ≡ true → If P (first test give None xs)
unfolding every first
if-first P good test give [] f e = tt
if-first P good test give (x ∷ xs) f e =
    let p = both (good x) (every good xs) e in
    if-cond P (test x) (give x) (first test give None xs) (λ t. f x p.0) (λ t. if-first P good test give xs f p.1)

all_pass : {A : Type 0} (xs : List A) → every (λ x. true) xs ≡ true
unfolding every
all_pass [] = refl
all_pass (x ∷ xs) = all_pass xs

-- ---- a field's step lies in it

pub record Within (f : FieldDef) (s : Step) : Type 0 where
  pub at : target_of s ≡ f.offset
  pub fits : gives s ≤ f.size

inside : (f : FieldDef) (s : Step) → target_of s ≡ f.offset → gives s ≤ f.size → Within f s
inside f s e h = record { at = e; fits = h }

step_for-within : (cat : List ℕ) (have want : FieldDef) (marked : Bool) → If (Within want) (step_for cat have want marked)
unfolding step_for
step_for-within cat have want marked =
    if-cond (Within want) (same_kind cat have want) _ _ (λ e. inside want (copy have.offset want.offset want.size) refl (omega arith))
    (λ e. if-cond (Within want) (unlike cat have want) _ _ (λ e. tt)
    (λ e. if-cond (Within want) (is_string cat have && is_string cat want) _ _
    (λ e. if-cond (Within want) (leb have.size want.size) _ _
    (λ k. inside want (copy have.offset want.offset have.size) refl (leb-true _ _ k)) (λ k. tt))
    (λ e. if-cond (Within want) (same_sign cat have want && (ltb have.size want.size || marked)) _ _
    (λ k. inside want (int have.offset want.offset have.size want.size (is_signed cat have) marked) refl (omega arith)) (λ k. tt))))

pub step_of-within : (cat : List ℕ) (haves : List FieldDef) (w : Want) → If (Within w.def) (step_of cat haves w)
unfolding step_of
step_of-within cat haves w =
    if-cond (Within w.def) (counts cat w.def) _ _
    (λ e. if-first (Within w.def) (λ have. true) (same_id w.def) _ haves (λ have t. step_for-within cat have w.def w.marked) (all_pass haves))
    (λ e. tt)

-- ---- bytes of a field

pub holds-is : (f : FieldDef) (i : ℕ) → holds f i ≡ true → Covers f i
holds-is f i e =
    let p = both (leb f.offset i) (ltb i (end_of f)) e in
    record { from = leb-true _ _ p.0; to = ltb-true _ _ p.1 }

pub is-holds : (f : FieldDef) (i : ℕ) → Covers f i → holds f i ≡ true
is-holds f i c = rw (le-leb f.offset i c.from, lt-ltb i (end_of f) c.to)

pub holds_not : (f : FieldDef) (i : ℕ) → holds f i ≡ false → Covers f i → ⊥
holds_not f i e c = false≢true (sym e ∙ is-holds f i c)

-- outside the field nothing is carried
carried-out : (src : List ℕ) (f : FieldDef) (c : Option Step) (i old : ℕ) → If (Within f) c → (Covers f i → ⊥) → carried_byte src c i old ≡ old
carried-out src f None i old x h = refl
carried-out src f (Some s) i old x h = step-out src s i old (λ a b. h (record { from = omega arith; to = omega arith }))

run-before : (src : List ℕ) (c : Option Step) (ss : List Step) (i old : ℕ) → run_byte src (before c ss) i old ≡ run_byte src ss i (carried_byte src c i old)
unfolding run_byte
run-before src None ss i old = refl
run-before src (Some s) ss i old = refl

module _ (cat : List ℕ) (haves : List FieldDef) (src : List ℕ) (i : ℕ) where
  -- the steps of fields that lie apart from one leave its bytes
  missed : (f : FieldDef) (ws : List Want) (old : ℕ) → every (clear_of f) (defs ws) ≡ true → Covers f i → run_byte src (steps_of cat haves ws) i old ≡ old
  unfolding every steps_of run_byte
  missed f [] old e c = refl
  missed f (w ∷ ws) old e c =
      let p = both (clear_of f w.def) (every (clear_of f) (defs ws)) e in
      let x : carried_byte src (step_of cat haves w) i old ≡ old = carried-out src w.def (step_of cat haves w) i old (step_of-within cat haves w) (clear f w.def i p.0 c) in
      run-before src (step_of cat haves w) (steps_of cat haves ws) i old ∙ rw x (missed f ws old p.1 c)

  -- the steps of fields that lie apart, in any order
  steps-byte : (ws : List Want) (old : ℕ) → apart (defs ws) ≡ true → run_byte src (steps_of cat haves ws) i old ≡ rule_byte cat haves ws src i old
  unfolding apart steps_of run_byte rule_byte first
  steps-byte [] old e = refl
  steps-byte (w ∷ ws) old e =
      let p = both (every (clear_of w.def) (defs ws)) (apart (defs ws)) e in
      run-before src (step_of cat haves w) (steps_of cat haves ws) i old
      ∙ go (holds w.def i) (holds-is w.def i) (holds_not w.def i) p.0 (steps-byte ws old p.1)
    where
      go : (b : Bool) → (b ≡ true → Covers w.def i) → (b ≡ false → Covers w.def i → ⊥) → every (clear_of w.def) (defs ws) ≡ true
          → run_byte src (steps_of cat haves ws) i old ≡ rule_byte cat haves ws src i old
          → run_byte src (steps_of cat haves ws) i (carried_byte src (step_of cat haves w) i old)
          ≡ cond b (carried_byte src (step_of cat haves w) i old) (rule_byte cat haves ws src i old)
      go true f g a ih = missed w.def ws _ a (f refl)
      go false f g a ih = rw (carried-out src w.def (step_of cat haves w) i old (step_of-within cat haves w) (g refl)) ih

  -- ---- the order does not matter to the rule

  rule-insert : (w : Want) (vs : List Want) (old : ℕ) → every (clear_of w.def) (defs vs) ≡ true
      → rule_byte cat haves (insert_by offset_of_want w vs) src i old ≡ rule_byte cat haves (w ∷ vs) src i old
  unfolding every insert_by rule_byte first
  rule-insert w [] old e = refl
  rule-insert w (v ∷ vs) old e =
      let p = both (clear_of w.def v.def) (every (clear_of w.def) (defs vs)) e in
      go (leb w.def.offset v.def.offset) (rule-insert w vs old p.1) (clear w.def v.def i p.0)
    where
      x : ℕ
      x = carried_byte src (step_of cat haves w) i old

      y : ℕ
      y = carried_byte src (step_of cat haves v) i old

      swap : (a b : Bool) (z : ℕ) → (a ≡ true → Covers w.def i) → (b ≡ true → Covers v.def i) → (Covers w.def i → Covers v.def i → ⊥)
          → cond b y (cond a x z) ≡ cond a x (cond b y z)
      swap true true z f g h = absurd (h (f refl) (g refl))
      swap true false z f g h = refl
      swap false b z f g h = refl

      go : (t : Bool) → rule_byte cat haves (insert_by offset_of_want w vs) src i old ≡ rule_byte cat haves (w ∷ vs) src i old → (Covers w.def i → Covers v.def i → ⊥)
          → rule_byte cat haves (cond t (w ∷ v ∷ vs) (v ∷ insert_by offset_of_want w vs)) src i old ≡ rule_byte cat haves (w ∷ v ∷ vs) src i old
      go true ih h = refl
      go false ih h =
          ap (λ (z : ℕ). cond (holds v.def i) y z) ih
          ∙ swap (holds w.def i) (holds v.def i) (rule_byte cat haves vs src i old) (holds-is w.def i) (holds-is v.def i) h

  rule-sorted : (ws : List Want) (old : ℕ) → apart (defs ws) ≡ true → rule_byte cat haves (in_target_order ws) src i old ≡ rule_byte cat haves ws src i old
  unfolding apart sort_by rule_byte first
  rule-sorted [] old e = refl
  rule-sorted (w ∷ ws) old e =
      let p = both (every (clear_of w.def) (defs ws)) (apart (defs ws)) e in
      let k : every (clear_of w.def) (defs (in_target_order ws)) ≡ true =
      ap (every (clear_of w.def)) (sort-map (λ v. v.def) offset_of ws) ∙ every-sorted offset_of (clear_of w.def) (defs ws) ∙ p.0 in
      rule-insert w (in_target_order ws) old k
      ∙ ap (λ (z : ℕ). cond (holds w.def i) (carried_byte src (step_of cat haves w) i old) z) (rule-sorted ws old p.1)

-- a plan that differs from the planner's only in cuts and joins inside the source base gives the rule's byte
pub planned-byte : (cat : List ℕ) (haves : List FieldDef) (ws : List Want) (src_base base : ℕ) (src : List ℕ) {q : List Step} (i old : ℕ)
    → apart (defs ws) ≡ true → src_base ≤ length src → Recut src_base (planned_steps cat haves ws src_base base) q
    → run_byte src q i old ≡ rule_byte cat haves ws src i old
unfolding planned_steps
planned-byte cat haves ws src_base base src i old e h r =
    let k : apart (defs (in_target_order ws)) ≡ true = ap apart (sort-map (λ w. w.def) offset_of ws) ∙ apart-sorted offset_of (defs ws) ∙ e in
    recut-byte src src_base i old h (then (back r) (join_all-recut src_base base (steps_of cat haves (in_target_order ws))))
    ∙ steps-byte cat haves src i (in_target_order ws) old k
    ∙ rule-sorted cat haves src i ws old e
