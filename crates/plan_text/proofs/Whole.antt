-- The whole text of the plan that a slot holds, part by part. Assumes nothing.
use mathlib.Core.Path.{◌≡◌, ap, ◌∙◌}
use mathlib.Core.Bool.{true, false}
use mathlib.Core.List.{List, ◌++◌}
use Rattle.std.specs.Prelude.{Ok, Err}
use Prim.Native.Nat.{ℕ, ◌+◌, ◌-◌, ◌*◌, ◌≤◌, ◌<◌}
use native.Mathlib.Omega.{arith}
use lib.ListN.{length, length-append}
use lib.Seq.{sets}
use borrow.Author.Tests.{le-leb, lt-leb}
use Rattle.limits.specs.declared.refusal.Refusal.TheVariants.{BadPlan, NoRoom}
use Rattle.lent.specs.Bytes.{window}
use Rattle.lent.proofs.Scan.{gathered-length}
use Rattle.step.specs.Packed.{step_at, steps_at}
use Rattle.slot.specs.Slot.{steps_from, body_from, header_in, size_in, count_in, slot_ok}
use Rattle.slot.proofs.Kept.{kept_slot}
use Rattle.lent.proofs.Bytes.{window-length}
use Rattle.plan_text.specs.Text.{body_line, step_lines, text_of}
use Rattle.plan_text.specs.Held.{Held, head_in}
use Rattle.plan_text.specs.Writing.{text_in, written_of, after_writing}
use Rattle.plan_text.proofs.Laid.{body-length}

abbrev pub body_in : List ℕ → List ℕ
body_in slot = window slot body_from (size_in slot - header_in slot)

abbrev pub steps_in : List ℕ → List ℕ
steps_in slot = step_lines (steps_at slot steps_from (count_in slot))

pub text-parts : (slot : List ℕ) → text_in slot ≡ head_in slot ++ (body_line (body_in slot) ++ steps_in slot)
unfolding text_of
text-parts slot = rw (gathered-length (step_at slot) 16 steps_from (count_in slot))

pub text-length : (slot : List ℕ) → Held slot → length (text_in slot) ≡ length (head_in slot) + (length (body_line (body_in slot)) + length (steps_in slot))
text-length slot h =
    ap length (text-parts slot)
    ∙ length-append (head_in slot) (body_line (body_in slot) ++ steps_in slot)
    ∙ rw (length-append (body_line (body_in slot)) (steps_in slot))

pub body-wide : (slot : List ℕ) → Held slot → length (body_line (body_in slot)) ≡ 6 + 2 * (size_in slot - header_in slot)
body-wide slot h =
    let l = window-length slot body_from (size_in slot - header_in slot) (omega (arith, h.long, h.most)) in
    let b = body-length (body_in slot) in
    omega arith

-- what a slot that keeps the rules lends to the parts
pub held : (slot : List ℕ) → slot_ok slot ≡ true → Held slot
held slot ok = let k = kept_slot slot ok in record { long = k.long; few = k.few; most = k.plan.sizes.size; headed = k.plan.sizes.header }

-- ---- the writer's answers

module _ (slot text : List ℕ) where
  pub says-bad : slot_ok slot ≡ false → (Err BadPlan ≡ written_of slot text) × (text ≡ after_writing slot text)
  unfolding written_of after_writing
  says-bad h = (rw h, rw h)

  module _ (n : ℕ) (ok : slot_ok slot ≡ true) (e : n ≡ length (text_in slot)) where
    pub says-short : length text < n → (Err NoRoom ≡ written_of slot text) × (text ≡ after_writing slot text)
    unfolding written_of after_writing
    says-short h =
        let z = lt-leb (length (text_in slot)) (length text) (omega arith) in
        (rw (ok, z), rw (ok, z))

    pub says-text : (new : List ℕ) → n ≤ length text → new ≡ sets text 0 (text_in slot) → (Ok n ≡ written_of slot text) × (new ≡ after_writing slot text)
    unfolding written_of after_writing
    says-text new h w =
        let z = le-leb (length (text_in slot)) (length text) (omega arith) in
        (rw (ok, z, e), w ∙ rw (ok, z))
