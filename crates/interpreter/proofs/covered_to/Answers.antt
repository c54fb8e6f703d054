-- The first step decides, if there is one.
use Rattle.interpreter.proofs.Laid.{covers}
use Rattle.slot.specs.Slot.{header_in}
use mathlib.Core.Path.{◌∙◌}
use Rattle.interpreter.proofs.covered_to.Goals as goal

pub returns-then-target-header : goal.returns-then-target-header
returns-then-target-header c = c.end.ensures.0 ∙ covers c.args.src.now (header_in c.args.plan.bytes.now) _ (rw c.steps.ensures at c.in-Some.ensures.steps)
    (rw (← c.target.ensures.0, ← c.header-header.ensures, ← c.reaches.ensures) c.if-target-header.true)
