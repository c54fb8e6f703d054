-- Demand 3: whatever plan is used that differs from the planner's only in cuts, an upgraded record has the field rule's body. Assumes nothing.
use Prim.Native.Nat.{ℕ, ◌+◌, ◌-◌, ◌/◌, ◌≤◌, ◌<◌}
use native.Mathlib.Omega.{arith}
use mathlib.Core.Path.{◌≡◌, refl, sym, ap, ◌∙◌}
use mathlib.Core.Bool.{Bool, true, false, cond, ◌&&◌}
use mathlib.Core.List.{List, ◌++◌, append_assoc}
use borrow.Author.Tests.{leb-true, leb-false, ltb-true, ltb-false, le-leb, eq-eqb}
use lib.Dec.{leb, ltb}
use lib.ListN.{length, take, drop}
use lib.Seq.{sets, sets-eq, length-sets, ext_get_or}
use Rattle.limits.specs.Limits.{max_bytes, max_header, max_steps}
use Rattle.lent.specs.Bytes.{byte_at}
use Rattle.lent.specs.Scan.{every}
use Rattle.field.specs.Field.{fields_of}
use Rattle.table_rules.specs.Table.{apart}
use Rattle.table_rules.specs.declared.Rule.TheVariants.{Bounds, Apart}
use Rattle.record_size.specs.Size.{last_end}
use Rattle.admission.proofs.Sizes.{last-inside}
use Rattle.step.specs.Step.{steps_ok}
use Rattle.step.specs.declared.Step.{Step}
use Rattle.slot.specs.Plan.{Plan, plan_ok}
use Rattle.slot.proofs.Kept.{kept}
use Rattle.slot.proofs.Checking.{bytes-every}
use Rattle.plan_rules.specs.Rule.{wants}
use Rattle.steps.specs.Steps.{planned_steps}
use Rattle.interpreter.specs.Run.{run, upgraded}
use Rattle.rule.specs.Bytewise.{run_byte, bytewise}
use Rattle.rule.specs.Body.{defs, rule_byte, rule_body}
use Rattle.rule.specs.Recut.{Recut, same}
use Rattle.rule.proofs.Stores.{length-bytewise, byte-bytewise, get, run_out, run_length, run-byte}
use Rattle.rule.proofs.Planned.{planned-byte}
use Rattle.demand.specs.Demand.{Planned, Recuts}
use Rattle.demand.proofs.Ascending.{planned-few, planned-steps-ok}
use Rattle.demand.proofs.Tables.{fields-are, wants-length, all-admitted, all_placed}

-- ---- steps that change each byte by a rule, on a target that a body was stored in

module _ (src dst : List ℕ) (h : ℕ) (body : List ℕ) (ss : List Step) (size : ℕ) (whole : h + length body ≡ size) (room : size ≤ length dst) (ok : steps_ok h size ss ≡ true)
    (rule : ℕ → ℕ → ℕ) (each : (i old : ℕ) → run_byte src ss i old ≡ rule i old) where
  laid : List ℕ
  laid = sets dst h body

  long : length laid ≡ length dst
  unfolding laid
  long = length-sets dst h body

  byte : (i : ℕ) → byte_at (run src ss laid) i ≡ byte_at (sets dst h (bytewise rule h body)) i
  unfolding laid
  byte i =
      run-byte src h size ss laid i ok (omega (arith, long))
      ∙ ap (λ (o : ℕ). run_byte src ss i o) (get body dst h (length body) i refl (omega arith))
      ∙ go (leb h i) (ltb i (h + length body)) (leb-true _ _) (leb-false _ _) (ltb-true _ _) (ltb-false _ _)
      ∙ sym (get (bytewise rule h body) dst h (length body) i (length-bytewise rule h body) (omega arith))
    where
      out : (h ≤ i → i < size → ⊥) → run_byte src ss i (byte_at dst i) ≡ byte_at dst i
      out k = run_out src h size ss i (byte_at dst i) ok k

      go : (p q : Bool) → (p ≡ true → h ≤ i) → (p ≡ false → i < h) → (q ≡ true → i < h + length body) → (q ≡ false → h + length body ≤ i)
          → run_byte src ss i (cond (p && q) (byte_at body (i - h)) (byte_at dst i)) ≡ cond (p && q) (byte_at (bytewise rule h body) (i - h)) (byte_at dst i)
      go true true a b c d =
          let low : h ≤ i = a refl in
          let high : i < h + length body = c refl in
          each i (byte_at body (i - h)) ∙ ap (λ (k : ℕ). rule k (byte_at body (i - h))) (omega arith) ∙ sym (byte-bytewise rule h body (i - h) (omega arith))
      go true false a b c d = let high : h + length body ≤ i = d refl in out (λ x y. omega arith)
      go false q a b c d = let low : i < h = b refl in out (λ x y. omega arith)

  pub laid-run : run src ss (sets dst h body) ≡ take h dst ++ (bytewise rule h body ++ drop size dst)
  unfolding laid
  laid-run =
      let n : length (bytewise rule h body) ≡ length body = length-bytewise rule h body in
      let e : h + length (bytewise rule h body) ≡ size = omega arith in
      ext_get_or 0 (run src ss laid) (sets dst h (bytewise rule h body)) (run_length src ss laid ∙ long ∙ sym (length-sets dst h (bytewise rule h body))) (λ i l. byte i)
      ∙ sets-eq (bytewise rule h body) dst h (omega arith)
      ∙ append_assoc (take h dst) (bytewise rule h body) (drop (h + length (bytewise rule h body)) dst)
      ∙ ap (λ (k : ℕ). take h dst ++ (bytewise rule h body ++ drop k dst)) e

-- ---- the theorem, and that the planner's own plan is such a plan

module _ {cat src_table dst_table marks : List ℕ} {p : Plan} (made : Planned cat src_table dst_table marks p) where
  pub targets-apart : apart (defs (wants cat marks dst_table)) ≡ true
  targets-apart = ap apart (fields-are cat marks dst_table) ∙ made.target.rules Apart

  -- demand 3: the header as found, the field rule's body, the tail as found
  pub upgraded-by-rule : {q : Plan} → Recuts p q → (src dst : List ℕ) → p.src_base ≤ length src → p.size ≤ length dst
      → upgraded q src dst
      ≡ take p.header dst ++ (rule_body cat (fields_of src_table) (wants cat marks dst_table) src p.header p.body ++ drop p.size dst)
  unfolding upgraded
  upgraded-by-rule {q} r src dst long room =
      let eh : q.header ≡ p.header = ap (λ (x : Plan). x.header) r.same in
      let es : q.size ≡ p.size = ap (λ (x : Plan). x.size) r.same in
      let eb : q.body ≡ p.body = ap (λ (x : Plan). x.body) r.same in
      let ok : steps_ok p.header p.size q.steps ≡ true = rw (eh, es) at (kept q r.valid).steps in
      let k : Recut p.src_base (planned_steps cat (fields_of src_table) (wants cat marks dst_table) p.src_base p.base) q.steps = rw made.steps at r.steps in
      rw (eh, eb)
      (laid-run src dst p.header p.body q.steps p.size made.body room ok (rule_byte cat (fields_of src_table) (wants cat marks dst_table) src)
      (λ i old. planned-byte cat (fields_of src_table) (wants cat marks dst_table) p.src_base p.base src i old targets-apart long k))

  -- the planner's steps keep the rules
  pub planned-ascend : steps_ok p.header p.size p.steps ≡ true
  planned-ascend =
      let e = fields-are cat marks dst_table in
      rw made.steps
      (planned-steps-ok cat made.catalogue (fields_of src_table) (all-admitted cat src_table made.source) (wants cat marks dst_table) targets-apart
      (ap (every _) e ∙ all-admitted cat dst_table made.target) p.header p.size
      (ap (every _) e ∙ all_placed cat p.header p.size (fields_of dst_table) made.after (omega (arith, made.size))) p.src_base p.base)

  -- and there are no more of them than fields of the target
  pub planned-no-more : length p.steps ≤ length dst_table / 16
  planned-no-more =
      let n = planned-few cat (fields_of src_table) (wants cat marks dst_table) p.src_base p.base in
      rw made.steps (omega (arith, wants-length cat marks dst_table))

  -- so refusal 16 never applies to the planner's plan
  pub planned-valid : plan_ok p ≡ true
  unfolding plan_ok
  planned-valid =
      let end : last_end (fields_of dst_table) ≤ max_bytes = last-inside max_bytes (fields_of dst_table) (made.target.rules Bounds) in
      let most : length p.steps ≤ max_steps = omega (arith, planned-no-more, made.few) in
      rw (
        made.rtypes,
        le-leb p.src_base max_bytes made.src_base,
        le-leb p.size max_bytes (omega (arith, made.size, made.base)),
        le-leb p.header max_header made.header,
        le-leb p.header p.size (omega (arith, made.body)),
        le-leb p.base p.size (omega (arith, made.size)),
        eq-eqb (p.header + length p.body) p.size made.body,
        bytes-every p.body made.bytes,
        le-leb (length p.steps) max_steps most,
        planned-ascend,
      )

  pub planned-itself : Recuts p p
  planned-itself = record { valid = planned-valid; same = refl; steps = same refl }
