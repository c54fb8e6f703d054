-- The step between two admitted fields keeps a plan's rules on one step. Assumes nothing.
use Prim.Native.Nat.{ℕ, ◌+◌, ◌≤◌, ◌<◌}
use native.Mathlib.Omega.{arith}
use mathlib.Core.Path.{◌≡◌, refl, sym, ◌∙◌, subst}
use mathlib.Core.Bool.{Bool, true, false, not, ◌&&◌, ◌||◌, false≢true}
use mathlib.Core.List.{List}
use borrow.Author.Tests.{leb-true, ltb-true, eqb-true, eq-eqb, ne_eqb, le-leb, not-false}
use lib.Dec.{leb, ltb, eqb}
use Rattle.limits.specs.Limits.{max_bytes}
use Rattle.lent.specs.Scan.{every}
use Rattle.lent.proofs.Scan.{both}
use Rattle.catalogue.specs.Catalogue.{unsigned, signed, class_of, width_of, is_width, catalogue_ok}
use Rattle.field.specs.Field.{end_of, is_array, is_integer, counts, is_string, is_signed}
use Rattle.field.specs.declared.FieldDef.{FieldDef}
use Rattle.table_rules.specs.Table.{in_bounds, width_ok}
use Rattle.step.specs.Step.{copy, int, step_ok}
use Rattle.step.specs.declared.Step.{Step}
use Rattle.field.specs.Pair.{same_scale, same_kind, apart, same_sign}
use Rattle.plan_rules.specs.Rule.{Want, same_id, step_for, step_of}
use Rattle.rule.proofs.Planned.{If, if-cond, if-first}
use Rattle.catalogue.proofs.Valid.{integer-width}
use Rattle.demand.proofs.Types.{one_type}

-- a field that is admitted, with a type id that is a byte
abbrev pub admitted : List ℕ → FieldDef → Bool
admitted cat f = in_bounds max_bytes f && (width_ok cat f && ltb f.type_id 256)

pub record Right (cat : List ℕ) (f : FieldDef) : Type 0 where
  pub some : 1 ≤ f.size
  pub end : end_of f ≤ max_bytes
  pub width : width_ok cat f ≡ true
  pub byte : f.type_id < 256

pub right : (cat : List ℕ) (f : FieldDef) → admitted cat f ≡ true → Right cat f
right cat f e =
    let a = both (in_bounds max_bytes f) (width_ok cat f && ltb f.type_id 256) e in
    let b = both (ltb 0 f.size) (leb (end_of f) max_bytes) a.0 in
    let c = both (width_ok cat f) (ltb f.type_id 256) a.1 in
    record { some = ltb-true _ _ b.0; end = leb-true _ _ b.1; width = c.0; byte = ltb-true _ _ c.1 }

abbrev Ok : Step → Type 0
Ok s = step_ok s ≡ true

pub copy-ok : (s d n : ℕ) → 1 ≤ n → s + n ≤ max_bytes → Ok (copy s d n)
copy-ok s d n p q = rw (ne_eqb n 0 (λ e. omega arith), le-leb (s + n) max_bytes q)

or-none : (a b : Bool) → (a || b) ≡ false → (a ≡ false) × (b ≡ false)
or-none true b e = absurd (false≢true (sym e))
or-none false b e = (refl, e)

or_swap : (a b : Bool) → (a || b) ≡ true → (b || a) ≡ true
or_swap true true e = refl
or_swap true false e = refl
or_swap false true e = refl
or_swap false false e = e

module _ (cat : List ℕ) (valid : catalogue_ok cat ≡ true) where
  -- an integer that is no array has its width
  pub sized : (f : FieldDef) → Right cat f → is_integer cat f ≡ true → is_array cat f ≡ false → f.size ≡ width_of cat f.type_id
  sized f r e a = eqb-true _ _ (go (is_integer cat f) (is_array cat f) e a r.width) where
    go : (s t : Bool) → s ≡ true → t ≡ false → (not (s && not t) || eqb f.size (width_of cat f.type_id)) ≡ true → eqb f.size (width_of cat f.type_id) ≡ true
    go true true p q x = absurd (false≢true (sym q))
    go true false p q x = x
    go false t p q x = absurd (false≢true p)

  -- two integers of one sign, one scale and one size that are no arrays have one type, so that they are of one kind
  pub of-one-kind : (have want : FieldDef) → Right cat have → Right cat want → is_integer cat have ≡ true
      → class_of cat have.type_id ≡ class_of cat want.type_id → is_array cat have ≡ false → is_array cat want ≡ false
      → same_scale have want ≡ true → have.size ≡ want.size → same_kind cat have want ≡ true
  of-one-kind have want h w e k a b s same =
      let ew : is_integer cat want ≡ true = subst (λ (j : ℕ). (eqb j unsigned || eqb j signed) ≡ true) k e in
      let width : width_of cat have.type_id ≡ width_of cat want.type_id = sym (sized have h e a) ∙ same ∙ sized want w ew b in
      let type : have.type_id ≡ want.type_id = one_type cat valid have.type_id want.type_id h.byte w.byte e k width in
      rw (eq-eqb have.size want.size same, eq-eqb have.type_id want.type_id type, s, a, b)

  module _ (have want : FieldDef) (marked : Bool) (h : Right cat have) (w : Right cat want) where
    int_ok : same_kind cat have want ≡ false → apart cat have want ≡ false → (same_sign cat have want && (ltb have.size want.size || marked)) ≡ true
        → Ok (int have.offset want.offset have.size want.size (is_signed cat have) marked)
    int_ok unlike near e =
        let p = both (same_sign cat have want) (ltb have.size want.size || marked) e in
        let q = both (is_integer cat have) (eqb (class_of cat have.type_id) (class_of cat want.type_id)) p.0 in
        let k : class_of cat have.type_id ≡ class_of cat want.type_id = eqb-true _ _ q.1 in
        let a = or-none (not (same_scale have want)) (is_array cat have || is_array cat want) near in
        let b = or-none (is_array cat have) (is_array cat want) a.1 in
        let iw : is_integer cat want ≡ true = subst (λ (j : ℕ). (eqb j unsigned || eqb j signed) ≡ true) k q.0 in
        let wh : is_width have.size ≡ true = rw (sized have h q.0 b.0) (integer-width cat valid have.type_id h.byte q.0) in
        let ww : is_width want.size ≡ true = rw (sized want w iw b.1) (integer-width cat valid want.type_id w.byte iw) in
        let ne : eqb have.size want.size ≡ false = ne_eqb _ _ (λ z. false≢true (sym unlike ∙ of-one-kind have want h w q.0 k b.0 b.1 (not-false _ a.0) z)) in
        rw (wh, ww, ne, or_swap (ltb have.size want.size) marked p.1, le-leb (have.offset + have.size) max_bytes h.end)

    pub step_for-ok : If Ok (step_for cat have want marked)
    unfolding step_for
    step_for-ok =
        if-cond Ok (same_kind cat have want) _ _ (λ e. copy-ok have.offset want.offset want.size w.some (ends e))
        (λ unlike. if-cond Ok (apart cat have want) _ _ (λ e. tt)
        (λ near. if-cond Ok (is_string cat have && is_string cat want) _ _
        (λ e. if-cond Ok (leb have.size want.size) _ _ (λ k. copy-ok have.offset want.offset have.size h.some h.end) (λ k. tt))
        (λ e. if-cond Ok (same_sign cat have want && (ltb have.size want.size || marked)) _ _ (int_ok unlike near) (λ k. tt))))
      where
        ends : same_kind cat have want ≡ true → have.offset + want.size ≤ max_bytes
        ends e =
            let z : have.size ≡ want.size = eqb-true _ _ (both (eqb have.size want.size) _ e).0 in
            omega (arith, h.end)

  -- the step of a target field
  pub step_of-ok : (haves : List FieldDef) (want : Want) → every (admitted cat) haves ≡ true → admitted cat want.def ≡ true → If Ok (step_of cat haves want)
  unfolding step_of
  step_of-ok haves want hs w =
      if-cond Ok (counts cat want.def) _ _
      (λ e. if-first Ok (admitted cat) (same_id want.def) _ haves (λ have h. step_for-ok have want.def want.marked (right cat have h) (right cat want.def w)) hs)
      (λ e. tt)
