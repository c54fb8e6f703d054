-- The planner's steps keep a plan's rules: they ascend, none overlap, all lie from the header to the record size; and they are no more than the target's fields. Assumes nothing.
use Prim.Native.Nat.{ℕ, suc, ◌+◌, ◌≤◌, ◌<◌, min, max}
use native.Mathlib.Omega.{arith}
use mathlib.Core.Path.{◌≡◌, refl, sym, ap, ◌∙◌}
use mathlib.Core.Bool.{Bool, true, false, cond, not, ◌&&◌, ◌||◌}
use mathlib.Core.List.{List, [], ◌∷◌}
use borrow.Author.Tests.{leb-true, leb-false, ltb-true, ltb-false, eqb-false, le-leb, not-true}
use lib.Dec.{leb, ltb, eqb}
use lib.ListN.{length}
use Rattle.limits.specs.Limits.{max_bytes}
use Rattle.lent.specs.Scan.{every}
use Rattle.lent.proofs.Scan.{both}
use Rattle.catalogue.specs.Catalogue.{catalogue_ok}
use Rattle.field.specs.Field.{end_of, counts}
use Rattle.field.specs.declared.FieldDef.{FieldDef}
use Rattle.field.specs.Order.{insert_by, sort_by, offset_of, by_offset}
use Rattle.field.proofs.Kept.{every-sorted, length-sorted}
use Rattle.field.proofs.Mapped.{sort-map}
use Rattle.table_rules.specs.Table.{in_bounds, clear_of, apart}
use Rattle.table_rules.specs.Parts.{chain}
use Rattle.step.specs.Step.{copy, source_of, takes, target_of, end_of as step_end, step_ok, steps_ok}
use Rattle.step.specs.declared.Step.{Step}
use Rattle.plan_rules.specs.Rule.{Want, step_of}
use Rattle.coalesce.specs.Joins.{joins, joined, join_from, join_all}
use Rattle.steps.specs.Steps.{before, steps_of, offset_of_want, in_target_order, planned_steps}
use Rattle.std.specs.declared.option.Option.{Option}
use Rattle.std.specs.Prelude.{Some, None}
use Rattle.rule.specs.Body.{defs}
use Rattle.rule.proofs.Stores.{first_of, of-first}
use Rattle.rule.proofs.Cuts.{joins-are}
use Rattle.rule.proofs.Planned.{If, Within, step_of-within}
use Rattle.demand.proofs.Right.{admitted, copy-ok, step_of-ok}

-- ---- fields that lie apart follow each other in offset order

-- of two that share no byte, the one that starts first ends before the other starts
ends-first : (f g : FieldDef) → clear_of f g ≡ true → 1 ≤ f.size → 1 ≤ g.size → f.offset ≤ g.offset → end_of f ≤ g.offset
ends-first f g e p q l =
    let h : min (end_of f) (end_of g) ≤ max f.offset g.offset = ltb-false (max f.offset g.offset) (min (end_of f) (end_of g)) (not-true _ e) in
    omega arith

starts-last : (f g : FieldDef) → clear_of f g ≡ true → 1 ≤ f.size → 1 ≤ g.size → g.offset < f.offset → end_of g ≤ f.offset
starts-last f g e p q l =
    let h : min (end_of f) (end_of g) ≤ max f.offset g.offset = ltb-false (max f.offset g.offset) (min (end_of f) (end_of g)) (not-true _ e) in
    omega arith

has-size : (most : ℕ) (f : FieldDef) → in_bounds most f ≡ true → 1 ≤ f.size
has-size most f e = ltb-true 0 f.size (both (ltb 0 f.size) (leb (end_of f) most) e).0

insert-chain : (most low : ℕ) (f : FieldDef) (gs : List FieldDef) → low ≤ f.offset → chain low gs ≡ true → every (clear_of f) gs ≡ true
    → in_bounds most f ≡ true → every (in_bounds most) gs ≡ true → chain low (insert_by offset_of f gs) ≡ true
unfolding insert_by chain every
insert-chain most low f [] l c e p q = rw (le-leb low f.offset l)
insert-chain most low f (g ∷ gs) l c e p q =
    let a = both (leb low g.offset) (chain (end_of g) gs) c in
    let b = both (clear_of f g) (every (clear_of f) gs) e in
    let d = both (in_bounds most g) (every (in_bounds most) gs) q in
    go (leb f.offset g.offset) (leb-true _ _) (leb-false _ _) a.0 a.1
    (ends-first f g b.0 (has-size most f p) (has-size most g d.0)) (starts-last f g b.0 (has-size most f p) (has-size most g d.0))
    (λ k. insert-chain most (end_of g) f gs k a.1 b.1 p d.1)
  where
    go : (t : Bool) → (t ≡ true → f.offset ≤ g.offset) → (t ≡ false → g.offset < f.offset) → leb low g.offset ≡ true → chain (end_of g) gs ≡ true
        → (f.offset ≤ g.offset → end_of f ≤ g.offset) → (g.offset < f.offset → end_of g ≤ f.offset)
        → (end_of g ≤ f.offset → chain (end_of g) (insert_by offset_of f gs) ≡ true)
        → chain low (cond t (f ∷ g ∷ gs) (g ∷ insert_by offset_of f gs)) ≡ true
    go true x y u v before-it after-it ih = rw (le-leb low f.offset l, le-leb (end_of f) g.offset (before-it (x refl))) v
    go false x y u v before-it after-it ih = rw u (ih (after-it (y refl)))

sort-chain : (most : ℕ) (fs : List FieldDef) → apart fs ≡ true → every (in_bounds most) fs ≡ true → chain 0 (by_offset fs) ≡ true
unfolding sort_by chain every apart
sort-chain most [] e p = refl
sort-chain most (f ∷ fs) e p =
    let a = both (every (clear_of f) fs) (apart fs) e in
    let b = both (in_bounds most f) (every (in_bounds most) fs) p in
    insert-chain most 0 f (by_offset fs) (omega arith) (sort-chain most fs a.1 b.1) (every-sorted offset_of (clear_of f) fs ∙ a.0) b.0
    (every-sorted offset_of (in_bounds most) fs ∙ b.1)

-- ---- the step of each field, one after the other

-- it starts at `header` or later if it counts, and ends at `size` or before
abbrev pub placed : List ℕ → ℕ → ℕ → FieldDef → Bool
placed cat header size f = (not (counts cat f) || leb header f.offset) && leb (end_of f) size

-- a field that does not count has no step
step_counts : (cat : List ℕ) (haves : List FieldDef) (w : Want) → If (λ s. counts cat w.def ≡ true) (step_of cat haves w)
unfolding step_of
step_counts cat haves w = go (counts cat w.def) _ where
  anything : (c : Option Step) → If (λ s. ◌≡◌ {A = Bool} true true) c
  anything None = tt
  anything (Some s) = refl

  go : (b : Bool) (c : Option Step) → If (λ s. b ≡ true) (cond b c None)
  go true c = anything c
  go false c = tt

module _ (cat : List ℕ) (valid : catalogue_ok cat ≡ true) (haves : List FieldDef) (sources : every (admitted cat) haves ≡ true) (header size : ℕ) where
  -- fields that follow each other from `from` on: their steps lie from `low` on, if that is not past both `from` and the header
  ordered : (low from : ℕ) (ws : List Want) → low ≤ max from header → chain from (defs ws) ≡ true → every (admitted cat) (defs ws) ≡ true
      → every (placed cat header size) (defs ws) ≡ true → steps_ok low size (steps_of cat haves ws) ≡ true
  unfolding steps_of steps_ok chain every
  ordered low from [] l c a p = refl
  ordered low from (w ∷ ws) l c a p =
      let x = both (leb from w.def.offset) (chain (end_of w.def) (defs ws)) c in
      let y = both (admitted cat w.def) (every (admitted cat) (defs ws)) a in
      let z = both (placed cat header size w.def) (every (placed cat header size) (defs ws)) p in
      let q = both (not (counts cat w.def) || leb header w.def.offset) (leb (end_of w.def) size) z.0 in
      go (step_of cat haves w) (step_of-within cat haves w) (step_of-ok cat valid haves w sources y.0) (step_counts cat haves w)
      (leb-true _ _ x.0) (leb-true _ _ q.1) (λ e. leb-true _ _ (rw e at q.0))
      (λ next k. ordered next (end_of w.def) ws k x.1 y.1 z.1)
    where
      go : (c : Option Step) → If (Within w.def) c → If (λ s. step_ok s ≡ true) c → If (λ s. counts cat w.def ≡ true) c → from ≤ w.def.offset → end_of w.def ≤ size
          → (counts cat w.def ≡ true → header ≤ w.def.offset)
          → ((next : ℕ) → next ≤ max (end_of w.def) header → steps_ok next size (steps_of cat haves ws) ≡ true)
          → steps_ok low size (before c (steps_of cat haves ws)) ≡ true
      go None x y n u v t ih = ih low (omega arith)
      go (Some s) x y n u v t ih =
          let k : header ≤ w.def.offset = t n in
          of-first low size s (steps_of cat haves ws) (record { ok = y; from = omega arith; to = omega arith; rest = ih (step_end s) (omega arith) })

-- ---- neighbours joined

lowered : (low low' high : ℕ) (ss : List Step) → low' ≤ low → steps_ok low high ss ≡ true → steps_ok low' high ss ≡ true
unfolding steps_ok
lowered low low' high [] l e = refl
lowered low low' high (s ∷ ss) l e =
    let f = first_of low high s ss e in
    of-first low' high s ss (record { ok = f.ok; from = omega arith; to = f.to; rest = f.rest })

-- a copy that keeps its rules has a size, and its source end is within a record
copy_is : (s d n : ℕ) → step_ok (copy s d n) ≡ true → (1 ≤ n) × (s + n ≤ max_bytes)
copy_is s d n e =
    let p = both (not (eqb n 0)) (leb (s + n) max_bytes) e in
    let z : n ≡ 0 → ⊥ = eqb-false n 0 (not-true _ p.0) in
    (omega arith, leb-true _ _ p.1)

module _ (src_base base : ℕ) where
  -- two copies, the second behind the first
  pair_ok : (low high s d n m : ℕ) (ss : List Step) → steps_ok low high (copy s d n ∷ copy (s + n) (d + n) m ∷ ss) ≡ true → steps_ok low high (copy s d (n + m) ∷ ss) ≡ true
  pair_ok low high s d n m ss e =
      let f = first_of low high (copy s d n) (copy (s + n) (d + n) m ∷ ss) e in
      let g = first_of (d + n) high (copy (s + n) (d + n) m) ss f.rest in
      let a = copy_is s d n f.ok in
      let b = copy_is (s + n) (d + n) m g.ok in
      of-first low high (copy s d (n + m)) ss
      (record { ok = copy-ok s d (n + m) (omega arith) (omega arith); from = f.from; to = omega arith; rest = lowered (d + n + m) (d + (n + m)) high ss (omega arith) g.rest })

  join-ok : (low high : ℕ) (a b : Step) (ss : List Step) → joins src_base base a b ≡ true → steps_ok low high (a ∷ b ∷ ss) ≡ true → steps_ok low high (joined a b ∷ ss) ≡ true
  join-ok low high a b ss e h =
      let j = joins-are src_base base a b e in
      let same : a ∷ b ∷ ss ≡ copy (source_of a) (target_of a) (takes a) ∷ copy (source_of a + takes a) (target_of a + takes a) (takes b) ∷ ss =
      ap (λ (s : Step). s ∷ b ∷ ss) j.first ∙ ap (λ (s : Step). copy (source_of a) (target_of a) (takes a) ∷ s ∷ ss) j.second in
      pair_ok low high (source_of a) (target_of a) (takes a) (takes b) ss (sym (ap (steps_ok low high) same) ∙ h)

  join_from-ok : (low high : ℕ) (a : Step) (ss : List Step) → steps_ok low high (a ∷ ss) ≡ true → steps_ok low high (join_from src_base base a ss) ≡ true
  unfolding join_from
  join_from-ok low high a [] h = h
  join_from-ok low high a (b ∷ ss) h =
      let f = first_of low high a (b ∷ ss) h in
      go (joins src_base base a b) (λ e. join_from-ok low high (joined a b) ss (join-ok low high a b ss e h))
      (of-first low high a (join_from src_base base b ss) (record { ok = f.ok; from = f.from; to = f.to; rest = join_from-ok (step_end a) high b ss f.rest }))
    where
      go : (t : Bool) → (t ≡ true → steps_ok low high (join_from src_base base (joined a b) ss) ≡ true) → steps_ok low high (a ∷ join_from src_base base b ss) ≡ true
          → steps_ok low high (cond t (join_from src_base base (joined a b) ss) (a ∷ join_from src_base base b ss)) ≡ true
      go true x y = x refl
      go false x y = y

  join_all-ok : (low high : ℕ) (ss : List Step) → steps_ok low high ss ≡ true → steps_ok low high (join_all src_base base ss) ≡ true
  unfolding join_all
  join_all-ok low high [] h = h
  join_all-ok low high (a ∷ ss) h = join_from-ok low high a ss h

  join_from-length : (a : Step) (ss : List Step) → length (join_from src_base base a ss) ≤ suc (length ss)
  unfolding join_from
  join_from-length a [] = omega arith
  join_from-length a (b ∷ ss) = go (joins src_base base a b) (join_from-length (joined a b) ss) (join_from-length b ss) where
    go : (t : Bool) → length (join_from src_base base (joined a b) ss) ≤ suc (length ss) → length (join_from src_base base b ss) ≤ suc (length ss)
        → length (cond t (join_from src_base base (joined a b) ss) (a ∷ join_from src_base base b ss)) ≤ suc (suc (length ss))
    go true x y = omega arith
    go false x y = omega arith

  join_all-length : (ss : List Step) → length (join_all src_base base ss) ≤ length ss
  unfolding join_all
  join_all-length [] = omega arith
  join_all-length (a ∷ ss) = join_from-length a ss

steps-length : (cat : List ℕ) (haves : List FieldDef) (ws : List Want) → length (steps_of cat haves ws) ≤ length ws
unfolding steps_of
steps-length cat haves [] = omega arith
steps-length cat haves (w ∷ ws) = go (step_of cat haves w) (steps-length cat haves ws) where
  go : (c : Option Step) → length (steps_of cat haves ws) ≤ length ws → length (before c (steps_of cat haves ws)) ≤ suc (length ws)
  go None h = omega arith
  go (Some s) h = omega arith

-- ---- the planner's

-- no more steps than target fields
pub planned-few : (cat : List ℕ) (haves : List FieldDef) (ws : List Want) (src_base base : ℕ) → length (planned_steps cat haves ws src_base base) ≤ length ws
unfolding planned_steps
planned-few cat haves ws src_base base =
    omega (arith, join_all-length src_base base (steps_of cat haves (in_target_order ws)), steps-length cat haves (in_target_order ws), length-sorted offset_of_want ws)

every_map : {A : Type 0} (p : A → Bool) (q : A → Bool) (xs : List A) → ((x : A) → p x ≡ true → q x ≡ true) → every p xs ≡ true → every q xs ≡ true
unfolding every
every_map p q [] f e = refl
every_map p q (x ∷ xs) f e =
    let a = both (p x) (every p xs) e in
    rw (f x a.0) (every_map p q xs f a.1)

-- they keep the rules
pub planned-steps-ok : (cat : List ℕ) → catalogue_ok cat ≡ true → (haves : List FieldDef) → every (admitted cat) haves ≡ true → (ws : List Want) → apart (defs ws) ≡ true
    → every (admitted cat) (defs ws) ≡ true → (header size : ℕ) → every (placed cat header size) (defs ws) ≡ true
    → (src_base base : ℕ) → steps_ok header size (planned_steps cat haves ws src_base base) ≡ true
unfolding planned_steps
planned-steps-ok cat valid haves hs ws e fine header size ps src_base base =
    let order : defs (in_target_order ws) ≡ by_offset (defs ws) = sort-map (λ w. w.def) offset_of ws in
    let bounds : every (in_bounds max_bytes) (defs ws) ≡ true = every_map (admitted cat) (in_bounds max_bytes) (defs ws) (λ f x. (both (in_bounds max_bytes f) _ x).0) fine in
    join_all-ok src_base base header size (steps_of cat haves (in_target_order ws))
    (ordered cat valid haves hs header size header 0 (in_target_order ws) (omega arith) (ap (chain 0) order ∙ sort-chain max_bytes (defs ws) e bounds)
    (ap (every (admitted cat)) order ∙ every-sorted offset_of (admitted cat) (defs ws) ∙ fine)
    (ap (every (placed cat header size)) order ∙ every-sorted offset_of (placed cat header size) (defs ws) ∙ ps))
