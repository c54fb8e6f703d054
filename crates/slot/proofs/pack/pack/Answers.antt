-- The parts one behind the other.
use Prim.Native.Nat.{◌*◌, ℕ}
use Rattle.slot.proofs.Packing.{laid, steps-size}
use Rattle.slot.specs.Slot.{head_as, packed_steps, slot_of}
use lib.ListN.{length, take}
use mathlib.Core.Path.{◌∙◌, ◌≡◌, ap, refl}
use Rattle.slot.proofs.pack.pack.Goals as goal

pub returns : goal.returns
unfolding slot_of
returns c = let a = c.args in
    let t = c.put_steps.ensures.1 in
    let s : length (packed_steps (take a.plan.steps.count a.plan.steps.steps)) ≡ 16 * a.plan.steps.count = steps-size (take a.plan.steps.count a.plan.steps.steps) ∙ ap (λ (k : ℕ). 16 * k) t in
    let m = a.plan.numbers in
    let head = head_as m.src_rtype m.rtype m.src_base m.header m.base m.size a.plan.steps.count in
    rw t (laid a.slot.now _ _ _ _ _ head (packed_steps (take a.plan.steps.count a.plan.steps.steps)) a.body.now a.plan.steps.count
    refl s c.requires.0 c.put_head.ensures c.put_steps.ensures.0 c.zeros.ensures c.copy.ensures c.zeros-2.ensures)
