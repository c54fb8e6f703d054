-- What an admitted layout has passed. Assumes nothing.
use Rattle.std.specs.Prelude.{Err, Ok, Result}
use mathlib.Core.Path.{◌≡◌, refl, ap}
use mathlib.Core.Bool.{Bool, true, false}
use mathlib.Core.List.{List, ◌∷◌}
use Prim.Native.Nat.{ℕ}
use native.Mathlib.Omega.{arith}
use Rattle.limits.specs.declared.refusal.Refusal.{Refusal}
use Rattle.lent.specs.Scan.{every}
use Rattle.lent.proofs.Scan.{both}
use Rattle.catalogue.specs.Catalogue.{catalogue_ok}
use Rattle.layout.specs.Shape.{shape_ok}
use Rattle.table_rules.specs.declared.Rule.{Rule}
use Rattle.table_rules.specs.declared.Rule.TheVariants.{Reserved, Bounds, Apart, Width}
use Rattle.admission_rules.specs.Admission.{layout_ok, unless, admit_all, failed}
use Rattle.limits.specs.declared.refusal.Failure.{Failure}
use Rattle.limits.specs.declared.refusal.Failure.TheVariants.{Refused}
use Rattle.std.specs.Result.{IsErrAnd}

passed : (p : Bool) (refusal : Refusal) (rest : Result (Unit {0}) Refusal) → unless p refusal rest ≡ (Ok tt) → (p ≡ true) × (rest ≡ (Ok tt))
passed true refusal rest e = (refl, e)
passed false refusal rest e = absurd (let z : ◌≡◌ {A = ℕ} 0 1 = cc in omega arith)

-- what holds of each rule holds of any
pub by-rule : (P : Rule → Type 0) → P Reserved → P Bounds → P Apart → P Width → (rule : Rule) → P rule
by-rule P a b c d Reserved = a
by-rule P a b c d Bounds = b
by-rule P a b c d Apart = c
by-rule P a b c d Width = d

pub record Passed (cat : List ℕ) (ls : List (List ℕ)) : Type 0 where
  pub valid : catalogue_ok cat ≡ true
  pub shaped : every shape_ok ls ≡ true
  pub rules : (rule : Rule) → every (layout_ok rule cat) ls ≡ true

pub admitted : (cat : List ℕ) (ls : List (List ℕ)) → admit_all cat ls ≡ (Ok tt) → Passed cat ls
unfolding admit_all
admitted cat ls e =
    let a = passed (catalogue_ok cat) _ _ e in
    let b = passed (every shape_ok ls) _ _ a.1 in
    let c = passed (every (layout_ok Reserved cat) ls) _ _ b.1 in
    let d = passed (every (layout_ok Bounds cat) ls) _ _ c.1 in
    let f = passed (every (layout_ok Apart cat) ls) _ _ d.1 in
    let g = passed (every (layout_ok Width cat) ls) _ _ f.1 in
    let rules : (rule : Rule) → every (layout_ok rule cat) ls ≡ true = by-rule (λ rule. every (layout_ok rule cat) ls ≡ true) c.0 d.0 f.0 g.0 in
    record { valid = a.0; shaped = b.0; rules = rules }

-- what all passed, the first passed, and the others
module _ (test : List ℕ → Bool) (l : List ℕ) (ls : List (List ℕ)) (all : every test (l ∷ ls) ≡ true) where
  pub front : test l ≡ true
  unfolding every
  front = (both (test l) (every test ls) all).0

  pub rest : every test ls ≡ true
  unfolding every
  rest = (both (test l) (every test ls) all).1

-- what the exit of a `?` on admission answers, of a call on records
pub raised : {A : Type 0} (r : Result A Failure) (refusal : Refusal) → IsErrAnd r (λ failure. failure ≡ Refused refusal) → r ≡ failed refusal
raised (Ok x) refusal e = absurd e
raised (Err failure) refusal e = ap Err e
