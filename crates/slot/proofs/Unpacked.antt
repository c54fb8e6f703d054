-- The slot of a plan holds that plan, and is a slot that keeps every rule. Assumes nothing.
use mathlib.Core.Path.{◌≡◌, refl, sym, ap, ◌∙◌}
use mathlib.Core.Bool.{Bool, true, false, ◌&&◌}
use mathlib.Core.List.{List, [], ◌∷◌, ◌++◌, append_assoc}
use Prim.Native.Nat.{ℕ, zero, suc, ◌+◌, ◌-◌, ◌*◌, ◌/◌, ◌%◌, ◌≤◌}
use native.Mathlib.Omega.{arith}
use lib.ListN.{length, drop, replicate, length-append, length-replicate}
use lib.Seq.{get_or-append-add, drop_at, take_at, drop-drop}
use lib.Dec.{eqb, leb}
use borrow.Author.Tests.{eq-eqb}
use Rattle.limits.specs.Limits.{max_bytes, max_steps}
use Rattle.lent.specs.Bytes.{byte_at, number_at, window}
use Rattle.lent.specs.Scan.{gather, every}
use Rattle.step.specs.Packed.{bit, packed_op, packed_of, op_at, step_at, flags_ok, steps_at}
use Rattle.step.specs.declared.Op.{Op}
use Rattle.step.specs.declared.Op.TheVariants.{Copy, Int}
use Rattle.step.specs.declared.Step.{Step}
use Rattle.slot.specs.Plan.{Plan, plan_ok}
use Rattle.slot.specs.Slot.{slot_size, steps_from, body_from, header_in, size_in, count_in, plan_in, all_flags, slot_ok, filled, packed_steps, head_of, slot_of}
use Rattle.slot.proofs.Kept.{Low, AllLow, Kept, kept, all-low}
use Rattle.slot.proofs.Packing.{packed-size, steps-size}

-- the two bytes of a number
two : (v : ℕ) → v ≤ 65535 → v % 256 + 256 * (v / 256 % 256 + 256 * 0) ≡ v
two v h = omega arith

-- ---- reads behind what stands before

number_behind : (pre l : List ℕ) (j n : ℕ) → number_at (pre ++ l) (length pre + j) n ≡ number_at l j n
number_behind pre l j zero = refl
number_behind pre l j (suc n) =
    let e : (length pre + j) + 1 ≡ length pre + (j + 1) = omega arith in
    rw (get_or-append-add pre l j 0, e, number_behind pre l (j + 1) n)

op-behind : (pre l : List ℕ) (at : ℕ) → at ≡ length pre → op_at (pre ++ l) at ≡ op_at l 0
op-behind pre l at e =
    let z : length pre + 0 ≡ length pre = omega arith in
    let b : byte_at (pre ++ l) (length pre) ≡ byte_at l 0 = rw z at (get_or-append-add pre l 0 0) in
    rw (e, b, number_behind pre l 4 2, number_behind pre l 6 2, number_behind pre l 8 2, number_behind pre l 10 2, get_or-append-add pre l 1 0, get_or-append-add pre l 2 0)

flags-behind : (pre l : List ℕ) (at : ℕ) → at ≡ length pre → flags_ok (pre ++ l) at ≡ flags_ok l 0
flags-behind pre l at e =
    let z : length pre + 0 ≡ length pre = omega arith in
    let b : byte_at (pre ++ l) (length pre) ≡ byte_at l 0 = rw z at (get_or-append-add pre l 0 0) in
    rw (e, b, get_or-append-add pre l 1 0, get_or-append-add pre l 2 0)

-- ---- a packed step

bit-back : (b : Bool) → eqb (bit b) 1 ≡ b
bit-back true = refl
bit-back false = refl

bit-small : (b : Bool) → leb (bit b) 1 ≡ true
bit-small true = refl
bit-small false = refl

op-back : (op : Op) (l : List ℕ) → Low op → op_at (packed_op op ++ l) 0 ≡ op
unfolding Low
op-back (Copy a b n) l h = rw (two a h.0, two b h.1, two n h.2)
op-back (Int a b n m s k) l h = rw (two a h.0, two b h.1, two n h.2, two m h.3, bit-back s, bit-back k)

flags-back : (op : Op) (l : List ℕ) → flags_ok (packed_op op ++ l) 0 ≡ true
flags-back (Copy a b n) l = refl
flags-back (Int a b n m s k) l = rw (bit-small s, bit-small k)

-- ---- the steps

module _ (more : List ℕ) where
  regroup : (pre a b : List ℕ) → pre ++ ((a ++ b) ++ more) ≡ (pre ++ a) ++ (b ++ more)
  regroup pre a b = simp append_assoc

  steps_back : (pre : List ℕ) (ss : List Step) (at : ℕ) → at ≡ length pre → AllLow ss → steps_at (pre ++ (packed_steps ss ++ more)) at (length ss) ≡ ss
  unfolding gather step_at packed_of AllLow
  steps_back pre [] at e h = refl
  steps_back pre (s ∷ ss) at e h =
      let f : pre ++ ((packed_of s ++ packed_steps ss) ++ more) ≡ pre ++ (packed_of s ++ (packed_steps ss ++ more)) = rw (append_assoc (packed_of s) (packed_steps ss) more) in
      let g = length-append pre (packed_of s) in
      let p = packed-size s in
      let here : op_at (pre ++ ((packed_of s ++ packed_steps ss) ++ more)) at ≡ s.op = ap (λ (l : List ℕ). op_at l at) f ∙ op-behind pre (packed_of s ++ (packed_steps ss ++ more)) at e ∙ op-back s.op (packed_steps ss ++ more) h.0 in
      let rest : steps_at (pre ++ ((packed_of s ++ packed_steps ss) ++ more)) (at + 16) (length ss) ≡ ss =
      ap (λ (l : List ℕ). steps_at l (at + 16) (length ss)) (regroup pre (packed_of s) (packed_steps ss)) ∙ steps_back (pre ++ packed_of s) ss (at + 16) (omega arith) h.1 in
      rw (here, rest)

  flags-all : (pre : List ℕ) (ss : List Step) (at : ℕ) → at ≡ length pre → all_flags (pre ++ (packed_steps ss ++ more)) at (length ss) ≡ true
  unfolding gather every packed_of
  flags-all pre [] at e = refl
  flags-all pre (s ∷ ss) at e =
      let f : pre ++ ((packed_of s ++ packed_steps ss) ++ more) ≡ pre ++ (packed_of s ++ (packed_steps ss ++ more)) = rw (append_assoc (packed_of s) (packed_steps ss) more) in
      let g = length-append pre (packed_of s) in
      let p = packed-size s in
      let here : flags_ok (pre ++ ((packed_of s ++ packed_steps ss) ++ more)) at ≡ true = ap (λ (l : List ℕ). flags_ok l at) f ∙ flags-behind pre (packed_of s ++ (packed_steps ss ++ more)) at e ∙ flags-back s.op (packed_steps ss ++ more) in
      let rest : all_flags (pre ++ ((packed_of s ++ packed_steps ss) ++ more)) (at + 16) (length ss) ≡ true =
      ap (λ (l : List ℕ). all_flags l (at + 16) (length ss)) (regroup pre (packed_of s) (packed_steps ss)) ∙ flags-all (pre ++ packed_of s) ss (at + 16) (omega arith) in
      rw (here, rest)

filled-length : (n : ℕ) (l : List ℕ) → length l ≤ n → length (filled n l) ≡ n
filled-length n l h =
    let a = length-append l (replicate (n - length l) 0) in
    let b = length-replicate {A = ℕ} (n - length l) 0 in
    omega arith

three : (a b c : Bool) → a ≡ true → b ≡ true → c ≡ true → (a && (b && c)) ≡ true
three a b c x y z = rw (x, y, z)

-- ---- the slot

module _ (p : Plan) (ok : plan_ok p ≡ true) where
  k : Kept p
  k = kept p ok

  lows : AllLow p.steps
  lows = all-low p.steps p.header p.size k.sizes.size k.steps

  abbrev steps_room : List ℕ
  steps_room = filled (16 * max_steps) (packed_steps p.steps)

  abbrev body_room : List ℕ
  body_room = filled max_bytes p.body

  steps-long : length steps_room ≡ 16 * max_steps
  steps-long = let s = steps-size p.steps in filled-length (16 * max_steps) (packed_steps p.steps) (omega (arith, k.few))

  body-long : length body_room ≡ max_bytes
  body-long = filled-length max_bytes p.body (omega (arith, k.sizes.size, k.whole))

  pub slot-long : length (slot_of p) ≡ slot_size
  unfolding slot_of
  slot-long = rw (length-append (head_of p) (steps_room ++ body_room), length-append steps_room body_room, steps-long, body-long)

  -- room behind the steps, up to the end of the slot
  abbrev behind : List ℕ
  behind = replicate (16 * max_steps - length (packed_steps p.steps)) 0 ++ body_room

  as-steps : slot_of p ≡ head_of p ++ (packed_steps p.steps ++ behind)
  unfolding slot_of
  as-steps = rw (append_assoc (packed_steps p.steps) (replicate (16 * max_steps - length (packed_steps p.steps)) 0) body_room)

  body-in : window (slot_of p) body_from (p.size - p.header) ≡ p.body
  unfolding slot_of
  body-in =
      let d : drop body_from (head_of p ++ (steps_room ++ body_room)) ≡ body_room =
      sym (drop-drop (16 * max_steps) steps_from (head_of p ++ (steps_room ++ body_room))) ∙ rw (drop_at (head_of p) (steps_room ++ body_room) steps_from refl) (drop_at steps_room body_room (16 * max_steps) steps-long) in
      rw d (take_at p.body (replicate (max_bytes - length p.body) 0) (p.size - p.header) (omega (arith, k.whole)))

  n0 : number_at (slot_of p) 0 2 ≡ p.src_rtype
  unfolding slot_of
  n0 = two p.src_rtype (omega (arith, k.src_rtype))

  n1 : number_at (slot_of p) 2 2 ≡ p.rtype
  unfolding slot_of
  n1 = two p.rtype (omega (arith, k.rtype))

  n2 : number_at (slot_of p) 4 2 ≡ p.src_base
  unfolding slot_of
  n2 = two p.src_base (omega (arith, k.sizes.src_base))

  n3 : header_in (slot_of p) ≡ p.header
  unfolding slot_of
  n3 = two p.header (omega (arith, k.sizes.header, k.sizes.size))

  n4 : number_at (slot_of p) 8 2 ≡ p.base
  unfolding slot_of
  n4 = two p.base (omega (arith, k.sizes.base, k.sizes.size))

  n5 : size_in (slot_of p) ≡ p.size
  unfolding slot_of
  n5 = two p.size (omega (arith, k.sizes.size))

  n6 : count_in (slot_of p) ≡ length p.steps
  unfolding slot_of
  n6 = two (length p.steps) (omega (arith, k.few))

  steps-in : steps_at (slot_of p) steps_from (length p.steps) ≡ p.steps
  steps-in = ap (λ (l : List ℕ). steps_at l steps_from (length p.steps)) as-steps ∙ steps_back behind (head_of p) p.steps 16 refl lows

  -- the plan that stands in it
  pub plan-in : plan_in (slot_of p) ≡ p
  plan-in = rw (n0, n1, n2, n3, n4, n5, n6, body-in, steps-in)

  pub slot-passes : slot_ok (slot_of p) ≡ true
  unfolding slot_ok
  slot-passes =
      let f : all_flags (slot_of p) steps_from (length p.steps) ≡ true = ap (λ (l : List ℕ). all_flags l steps_from (length p.steps)) as-steps ∙ flags-all behind (head_of p) p.steps 16 refl in
      three (eqb (length (slot_of p)) slot_size) (all_flags (slot_of p) steps_from (count_in (slot_of p))) (plan_ok (plan_in (slot_of p)))
      (eq-eqb (length (slot_of p)) slot_size slot-long) (ap (λ (n : ℕ). all_flags (slot_of p) steps_from n) n6 ∙ f) (ap plan_ok plan-in ∙ ok)
