-- A plan that the planner answers is one that demand 3 speaks of, and its slot holds it. Assumes nothing.
use Prim.Native.Nat.{ℕ, ◌+◌}
use native.Mathlib.Omega.{arith}
use mathlib.Core.Path.{◌≡◌, refl, sym, ap, ◌∙◌}
use mathlib.Core.Bool.{Bool, true, false, cond, ◌&&◌}
use mathlib.Core.List.Memᴰ
use mathlib.Core.List.{List, [], ◌∷◌}
use borrow.Author.Tests.{ltb-true, lt-ltb}
use lib.Dec.{ltb}
use Rattle.std.specs.Prelude.{Result, Ok, Err}
use Rattle.limits.specs.declared.refusal.Failure.{Failure}
use Rattle.limits.specs.declared.refusal.Failure.TheVariants.{NoRecord, Refused}
use Rattle.limits.specs.declared.refusal.Refusal.{Refusal}
use Rattle.limits.specs.declared.refusal.Refusal.TheVariants.{BadHeader, BadDefaults}
use Rattle.lent.specs.Bytes.{Bytes, number_at}
use Rattle.lent.proofs.Scan.{both}
use Rattle.field.specs.Field.{fields_of}
use Rattle.layout.specs.Layout.{RecordLayout, record_at, record_head, record_of, count_of}
use Rattle.record_size.specs.Size.{record_size}
use Rattle.field.specs.declared.Holder.TheVariants.{Record}
use Rattle.admission_rules.specs.Admission.{admit_both, unless, or_refused, failed}
use Rattle.admission_rules.proofs.When.{admitted}
use Rattle.step.specs.declared.Step.{Step}
use Rattle.slot.specs.Plan.{Plan, rtypes_ok}
use Rattle.slot.specs.Slot.{slot_of}
use Rattle.slot.proofs.Unpacked.{plan-in}
use Rattle.plan_rules.specs.Rule.{wants}
use Rattle.defaults.specs.Defaults.{header_ok, defaults_ok}
use Rattle.planner.specs.Planner.{plan_between, between_of, planned_of}
use Rattle.planner.proofs.Passing.{header-fits, body-fits}
use Rattle.rule.specs.Recut.{same}
use Rattle.demand.specs.Demand.{Planned, with_steps}
use Rattle.demand.proofs.Layouts.{planned-of-records}
use Rattle.demand.proofs.Upgraded.{planned-valid}
use Rattle.demand.specs.Holds.{Holds}

-- an answer that is no refusal: every test before it passed
made_by : (t : Bool) (refusal : Refusal) (rest : Result (Unit {0}) Failure) → unless t (Refused refusal) rest ≡ Ok tt → (t ≡ true) × (rest ≡ Ok tt)
made_by true refusal rest e = (refl, e)
made_by false refusal rest e = absurd (let z : ◌≡◌ {A = ℕ} 0 1 = cc in omega arith)

made-there : (t : Bool) (rest : Result (Unit {0}) Failure) → cond t rest (Err NoRecord) ≡ Ok tt → (t ≡ true) × (rest ≡ Ok tt)
made-there true rest e = (refl, e)
made-there false rest e = absurd (let z : ◌≡◌ {A = ℕ} 0 1 = cc in omega arith)

made-admitted : (a : Result (Unit {0}) Refusal) (rest : Result (Unit {0}) Failure) → or_refused failed a rest ≡ Ok tt → (a ≡ Ok tt) × (rest ≡ Ok tt)
made-admitted (Ok done) rest e = (refl, e)
made-admitted (Err refusal) rest e = absurd (let z : ◌≡◌ {A = ℕ} 0 1 = cc in omega arith)

two_bytes : (l : List ℕ) (h : ℕ) → Bytes l → ltb (record_at l h).rtype 65536 ≡ true
unfolding record_at
two_bytes l h b = lt-ltb (number_at l h 2) 65536 (omega (arith, b h, b (h + 1)))

module _ (cat source : List ℕ) (k : ℕ) (target : List ℕ) (to header : ℕ) (body marks : List ℕ) where
  abbrev have : RecordLayout
  have = record_of source k

  abbrev want : RecordLayout
  want = record_of target to

  -- the plan that is made
  abbrev pub plan_made : Plan
  plan_made = plan_between cat have want header body marks

  pub made-planned : (room : ℕ) → Bytes source → Bytes target → Bytes body → planned_of cat source k target to header body marks room ≡ Ok tt
      → Planned cat have.table want.table marks plan_made
  unfolding planned_of between_of plan_between
  made-planned room bs bt bb e =
      let a = made-admitted (admit_both cat source target) _ e in
      let b = made-there (ltb k (count_of Record source) && ltb to (count_of Record target)) _ a.1 in
      let c = made_by (header_ok cat header (record_size want) (fields_of want.table)) BadHeader _ b.1 in
      let d = made_by (defaults_ok cat header (record_size want) (fields_of want.table) (wants cat marks want.table) body) BadDefaults _ c.1 in
      let there = both (ltb k (count_of Record source)) (ltb to (count_of Record target)) b.0 in
      let fits = header-fits cat header (record_size want) (fields_of want.table) c.0 in
      let long = body-fits cat header (record_size want) (fields_of want.table) (wants cat marks want.table) body d.0 in
      let rtypes : rtypes_ok plan_made ≡ true = rw (two_bytes source (record_head k) bs, two_bytes target (record_head to) bt) in
      planned-of-records cat (source ∷ target ∷ []) (admitted cat (source ∷ target ∷ []) a.0) source target (Memᴰ.head refl) (Memᴰ.tail (Memᴰ.head refl)) bs bt
      k to (ltb-true k (count_of Record source) there.0) (ltb-true to (count_of Record target) there.1) marks plan_made rtypes refl refl refl fits.0 fits.2 long bb refl

-- a slot of such a plan holds it
pub slot-holds : {cat src_table dst_table marks : List ℕ} {p : Plan} → Planned cat src_table dst_table marks p → Holds p (slot_of p)
slot-holds {p = p} made =
    let back = plan-in p (planned-valid made) in
    let steps = sym (ap (λ (q : Plan). q.steps) back) in
    record { same = back ∙ ap (λ (ss : List Step). with_steps p ss) steps; steps = same steps }
