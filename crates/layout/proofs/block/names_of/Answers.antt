use Rattle.layout.specs.Layout.{record_at}
use Rattle.layout.proofs.block.names_of.Goals as goal

pub returns : goal.returns
unfolding record_at
returns c = rw (c.names_from.ensures.0, c.names_count.ensures.0)
