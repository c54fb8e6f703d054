use Rattle.plan_read.proofs.Theorems.{reads}
use Rattle.tuppenceowl.proofs.texting.read_plan.Goals as goal

pub returns : goal.returns
returns c = rw (← c.read_plan.ensures.0, ← c.read_plan.ensures.1) at (reads c.args.text.now c.args.plan.now)
