use Prim.Native.Nat.{◌*◌, ◌+◌, ◌-◌}
use Rattle.slot.specs.Slot.{steps_from}
use Rattle.step.proofs.Behind.{steps-part}
use mathlib.Core.Path.{◌≡◌, ◌∙◌}
use native.Mathlib.Omega.{arith}
use Rattle.slot.proofs.steps_in.Goals as goal

pub returns : goal.returns
returns c =
    let n : steps_from + 16 * c.args.count - steps_from ≡ 16 * c.args.count = omega arith in
    rw n at c.steps_in.ensures ∙ steps-part c.args.slot.now steps_from c.args.count (omega arith)
