use Rattle.layout.specs.Layout.{struct_at}
use Rattle.layout.proofs.block.struct_size.Goals as goal

pub returns : goal.returns
unfolding struct_at
returns c = rw c.at.ensures.0 at c.u32_at.ensures.0
