use Prim.Native.Nat.{◌*◌, ◌+◌, ◌≤◌}
use Rattle.slot.proofs.Packing.{packs}
use Rattle.slot.specs.Slot.{steps_from}
use lib.ListN.{drop_of_length-le, length, take}
use lib.Seq.{length-take-le}
use mathlib.Core.Path.{◌∙◌, ◌≡◌, refl}
use native.Mathlib.Omega.{arith}
use Rattle.slot.proofs.pack.put_steps.Goals as goal

pub loop-k-init : goal.loop-k-init
loop-k-init c = (refl, refl)

pub loop-k-preserved : goal.loop-k-preserved
loop-k-preserved c = let a = c.args in
    let l = c.loop-k in
    let n : length a.steps.steps ≡ 128 = omega arith in
    let at : steps_from + 16 * (l.k + 1) ≡ (steps_from + 16 * l.k) + 16 = omega arith in
    (c.copy.auto.d ∙ l.invariant.0, rw at (packs a.steps.steps a.steps.count l.slot _ c.packed-bytes.result (steps_from + 16 * l.k) l.k (omega arith) (omega arith) c.packed-bytes.ensures c.copy.ensures ∙ l.invariant.1))

pub returns : goal.returns
returns c = let a = c.args in
    let l = c.loop-k in
    let n : length a.steps.steps ≡ 128 = omega arith in
    let t = length-take-le a.steps.count a.steps.steps (omega arith) in
    let past : length (take a.steps.count a.steps.steps) ≤ l.k = omega arith in
    (rw (← l.invariant.1, drop_of_length-le (take a.steps.count a.steps.steps) past), t)
