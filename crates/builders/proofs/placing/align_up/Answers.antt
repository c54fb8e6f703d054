-- The least multiple not below, with a step of at least 1.
use Prim.Native.Nat.{max}
use Rattle.cursor_rules.proofs.Align.{up_from, up_to}
use mathlib.Core.Path.{◌≡◌, refl}
use native.Mathlib.Omega.{arith}
use Rattle.builders.proofs.placing.align_up.Goals as goal

pub overflow_mul-result : goal.overflow_mul-result
overflow_mul-result c = let step : max c.args.align 1 ≡ max 1 c.args.align = omega arith in
    rw (c.max-step.ensures, step) (record { fits = omega (arith, up_to c.args.at c.args.align) })

pub returns : goal.returns
returns c = let step : max c.args.align 1 ≡ max 1 c.args.align = omega arith in
    rw (c.max-step.ensures, step) (refl, omega (arith, up_to c.args.at c.args.align), up_from c.args.at c.args.align)
