-- A sequence number is carried as it is. Assumes nothing.
use Prim.Native.Nat.{ℕ, ◌≤◌}
use native.Mathlib.Omega.{arith}
use mathlib.Core.Path.{◌≡◌, sym, ap, ◌∙◌}
use mathlib.Core.Bool.{Bool, true, false, cond}
use mathlib.Core.List.{List, [], ◌∷◌, Memᴰ}
use mathlib.Core.Option.{none, some}
use borrow.Author.Tests.{eq-eqb}
use lib.ListN.{length}
use Rattle.lent.specs.Bytes.{number_at}
use Rattle.lent.specs.Scan.{every, first}
use Rattle.lent.proofs.Scan.{both}
use Rattle.field.specs.Field.{fields_of, end_of, is_integer, byte_of, counts}
use Rattle.field.specs.declared.FieldDef.{FieldDef}
use Rattle.step.specs.Step.{copy}
use Rattle.slot.specs.Plan.{Plan}
use Rattle.field.specs.Pair.{same_kind}
use Rattle.plan_rules.specs.Rule.{Want, same_id, wants, step_for, step_of}
use Rattle.std.specs.Prelude.{Some, None}
use Rattle.interpreter.specs.Run.{upgraded}
use Rattle.rule.proofs.Values.{every-at}
use Rattle.demand.specs.Demand.{Planned, Recuts, Sequence, first_for}
use Rattle.demand.proofs.Right.{admitted, right, of-one-kind}
use Rattle.demand.proofs.Tables.{fields-are, all-admitted}
use Rattle.demand.proofs.Fields.{copied-number}

-- what the first that passes a test gives, and that it is one of them
module _ {A B : Type 0} (test : A → Bool) (x : A) where
  first_gives : (give : A → B) (missing : B) (ys : List A) → first test some none ys ≡ some x → first test give missing ys ≡ give x
  unfolding first
  first_gives give missing [] e = absurd (let z : ◌≡◌ {A = ℕ} 0 1 = cc in omega arith)
  first_gives give missing (y ∷ ys) e = go (test y) (first_gives give missing ys) e where
    go : (t : Bool) → (first test some none ys ≡ some x → first test give missing ys ≡ give x) → cond t (some y) (first test some none ys) ≡ some x
        → cond t (give y) (first test give missing ys) ≡ give x
    go true ih e = let z : y ≡ x = cc in rw z
    go false ih e = ih e

first_passes : {A : Type 0} (test good : A → Bool) (x : A) (ys : List A) → every good ys ≡ true → first test some none ys ≡ some x → good x ≡ true
unfolding first every
first_passes test good x [] g e = absurd (let z : ◌≡◌ {A = ℕ} 0 1 = cc in omega arith)
first_passes test good x (y ∷ ys) g e =
    let a = both (good y) (every good ys) g in
    go (test y) a.0 (first_passes test good x ys a.1) e
  where
    go : (t : Bool) → good y ≡ true → (first test some none ys ≡ some x → good x ≡ true) → cond t (some y) (first test some none ys) ≡ some x → good x ≡ true
    go true h ih e = let z : y ≡ x = cc in rw z at h
    go false h ih e = ih e

-- two fields of one kind: a copy
kept : (cat : List ℕ) (haves : List FieldDef) (w : Want) (have : FieldDef) → counts cat w.def ≡ true → first_for haves w.def ≡ some have → same_kind cat have w.def ≡ true
    → step_of cat haves w ≡ Some (copy have.offset w.def.offset w.def.size)
unfolding step_of step_for
kept cat haves w have here first_one kind =
    rw (here, first_gives (same_id w.def) have (λ f. step_for cat f w.def w.marked) None haves first_one, kind)

module _ {cat src_table dst_table marks : List ℕ} {p : Plan} (made : Planned cat src_table dst_table marks p) {q : Plan} (recut : Recuts p q)
    (src dst : List ℕ) (long : p.src_base ≤ length src) (room : p.size ≤ length dst) where
  -- the number of a sequence field in the upgraded record is the one that it had
  pub sequence-carried : (w : Want) → Memᴰ w (wants cat marks dst_table) → counts cat w.def ≡ true → (have : FieldDef) → first_for (fields_of src_table) w.def ≡ some have
      → Sequence cat have → Sequence cat w.def → have.scale ≡ w.def.scale → end_of have ≤ p.src_base
      → number_at (upgraded q src dst) w.def.offset 8 ≡ number_at src have.offset 8
  sequence-carried w one here have first_one from to scale inside =
      let want = w.def in
      let targets = ap (every (admitted cat)) (fields-are cat marks dst_table) ∙ all-admitted cat dst_table made.target in
      let h = right cat have (first_passes (same_id want) (admitted cat) have (fields_of src_table) (all-admitted cat src_table made.source) first_one) in
      let t = right cat want (every-at (admitted cat) one targets) in
      let integer : is_integer cat have ≡ true = rw from.class in
      let kind : same_kind cat have want ≡ true =
      of-one-kind cat made.catalogue have want h t integer (from.class ∙ sym to.class) from.single to.single (eq-eqb _ _ (ap byte_of scale)) (from.wide ∙ sym to.wide) in
      let by : step_of cat (fields_of src_table) w ≡ Some (copy have.offset want.offset 8) =
      kept cat (fields_of src_table) w have here first_one kind ∙ ap (λ (n : ℕ). Some (copy have.offset want.offset n)) to.wide in
      copied-number made recut src dst long room w one here have.offset want.offset 8 by (omega (arith, from.wide))
