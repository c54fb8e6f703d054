use Rattle.layout.specs.Layout.{record_at}
use Rattle.layout.proofs.block.record_base.Goals as goal

pub returns : goal.returns
unfolding record_at
returns c = rw c.at.ensures.0 at c.u32_at.ensures.0
