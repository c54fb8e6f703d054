use Rattle.step.specs.Packed.{step_at}
use Rattle.step.proofs.packed.step_in.Goals as goal

pub returns : goal.returns
unfolding step_at
returns c = rw c.op_in.ensures
