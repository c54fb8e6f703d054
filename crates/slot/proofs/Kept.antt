-- What a plan that keeps the rules gives, rule by rule; and the same of a slot that holds one. Assumes nothing.
use mathlib.Core.Path.{◌≡◌}
use mathlib.Core.Bool.{true, not, ◌&&◌}
use mathlib.Core.List.{List, [], ◌∷◌}
use Prim.Native.Nat.{ℕ, ◌+◌, ◌≤◌, ◌<◌}
use native.Mathlib.Omega.{arith}
use lib.Dec.{eqb, leb, ltb}
use lib.ListN.{length}
use borrow.Author.Tests.{eqb-true, leb-true, ltb-true}
use Rattle.limits.specs.Limits.{max_bytes, max_header, max_steps}
use Rattle.lent.specs.Scan.{every}
use Rattle.lent.proofs.Scan.{both, gathered-length}
use Rattle.step.specs.Step.{op_ok, widths_ok, step_ok, within, end_of, steps_ok}
use Rattle.step.specs.Packed.{step_at}
use Rattle.step.specs.declared.Op.{Op}
use Rattle.step.specs.declared.Op.TheVariants.{Copy, Int}
use Rattle.step.specs.declared.Step.{Step}
use Rattle.slot.specs.Plan.{Plan, is_byte, rtypes_ok, sizes_ok, body_ok, plan_ok}
use Rattle.slot.specs.Slot.{slot_size, steps_from, count_in, plan_in, all_flags, slot_ok}

-- ---- a plan

pub record Sized (p : Plan) : Type 0 where
  pub src_base : p.src_base ≤ max_bytes
  pub size : p.size ≤ max_bytes
  pub header : p.header ≤ p.size
  pub base : p.base ≤ p.size

pub sized : (p : Plan) → sizes_ok p ≡ true → Sized p
sized p ok =
    let all = both (leb p.src_base max_bytes && leb p.size max_bytes) ((leb p.header max_header && leb p.header p.size) && leb p.base p.size) ok in
    let most = both (leb p.src_base max_bytes) (leb p.size max_bytes) all.0 in
    let inside = both (leb p.header max_header && leb p.header p.size) (leb p.base p.size) all.1 in
    record {
      src_base = leb-true p.src_base max_bytes most.0;
      size = leb-true p.size max_bytes most.1;
      header = leb-true p.header p.size (both (leb p.header max_header) (leb p.header p.size) inside.0).1;
      base = leb-true p.base p.size inside.1;
    }

pub record Kept (p : Plan) : Type 0 where
  pub src_rtype : p.src_rtype < 65536
  pub rtype : p.rtype < 65536
  pub sizes : Sized p
  pub whole : p.header + length p.body ≡ p.size
  pub bytes : every is_byte p.body ≡ true
  pub few : length p.steps ≤ max_steps
  pub steps : steps_ok p.header p.size p.steps ≡ true

pub kept : (p : Plan) → plan_ok p ≡ true → Kept p
unfolding plan_ok
kept p ok =
    let list_ok = leb (length p.steps) max_steps && steps_ok p.header p.size p.steps in
    let all = both (rtypes_ok p && sizes_ok p) (body_ok p && list_ok) ok in
    let numbers = both (rtypes_ok p) (sizes_ok p) all.0 in
    let rtypes = both (ltb p.src_rtype 65536) (ltb p.rtype 65536) numbers.0 in
    let rest = both (body_ok p) list_ok all.1 in
    let body = both (eqb (p.header + length p.body) p.size) (every is_byte p.body) rest.0 in
    let list = both (leb (length p.steps) max_steps) (steps_ok p.header p.size p.steps) rest.1 in
    record {
      src_rtype = ltb-true p.src_rtype 65536 rtypes.0;
      rtype = ltb-true p.rtype 65536 rtypes.1;
      sizes = sized p numbers.1;
      whole = eqb-true (p.header + length p.body) p.size body.0;
      bytes = body.1;
      few = leb-true (length p.steps) max_steps list.0;
      steps = list.1;
    }

-- ---- a slot

pub record KeptSlot (slot : List ℕ) : Type 0 where
  pub long : length slot ≡ slot_size
  pub valid : plan_ok (plan_in slot) ≡ true
  pub plan : Kept (plan_in slot)
  pub few : count_in slot ≤ max_steps

pub kept_slot : (slot : List ℕ) → slot_ok slot ≡ true → KeptSlot slot
unfolding slot_ok
kept_slot slot ok =
    let all = both (eqb (length slot) slot_size) (all_flags slot steps_from (count_in slot) && plan_ok (plan_in slot)) ok in
    let valid = (both (all_flags slot steps_from (count_in slot)) (plan_ok (plan_in slot)) all.1).1 in
    let plan = kept (plan_in slot) valid in
    record {
      long = eqb-true (length slot) slot_size all.0;
      valid = valid;
      plan = plan;
      few = rw (gathered-length (step_at slot) 16 steps_from (count_in slot)) at plan.few;
    }

-- ---- the numbers of its steps: each in two bytes

unfoldable pub Low : Op → Type 0
Low (Copy a b n) = (a ≤ 65535) × (b ≤ 65535) × (n ≤ 65535)
Low (Int a b n m s k) = (a ≤ 65535) × (b ≤ 65535) × (n ≤ 65535) × (m ≤ 65535)

unfoldable pub AllLow : List Step → Type 0
AllLow [] = Unit
AllLow (s ∷ ss) = Low s.op × AllLow ss

op-low : (op : Op) (low high : ℕ) → high ≤ max_bytes → (op_ok op && within low high (record { op = op })) ≡ true → Low op
unfolding Low
op-low (Copy a b n) low high l h =
    let g = both (not (eqb n 0) && leb (a + n) max_bytes) (leb low b && leb (b + n) high) h in
    let z : a + n ≤ max_bytes = leb-true (a + n) max_bytes (both (not (eqb n 0)) (leb (a + n) max_bytes) g.0).1 in
    let y : b + n ≤ high = leb-true (b + n) high (both (leb low b) (leb (b + n) high) g.1).1 in
    (omega arith, omega arith, omega arith)
op-low (Int a b n m s k) low high l h =
    let g = both (widths_ok n m k && leb (a + n) max_bytes) (leb low b && leb (b + m) high) h in
    let z : a + n ≤ max_bytes = leb-true (a + n) max_bytes (both (widths_ok n m k) (leb (a + n) max_bytes) g.0).1 in
    let y : b + m ≤ high = leb-true (b + m) high (both (leb low b) (leb (b + m) high) g.1).1 in
    (omega arith, omega arith, omega arith, omega arith)

pub all-low : (ss : List Step) (low high : ℕ) → high ≤ max_bytes → steps_ok low high ss ≡ true → AllLow ss
unfolding steps_ok AllLow
all-low [] low high l h = tt
all-low (s ∷ ss) low high l h =
    let g = both (step_ok s && within low high s) (steps_ok (end_of s) high ss) h in
    (op-low s.op low high l g.0, all-low ss (end_of s) high l g.1)
