use Rattle.layout.specs.Layout.{struct_at}
use Rattle.calls.proofs.struct_bytes.Goals as goal

pub returns : goal.returns
unfolding struct_at
returns c = rw (← c.at.ensures.0) (c.u32_at.ensures.0, c.u32_at.ensures.1)
