use Rattle.layout.proofs.block.has_struct.Goals as goal

pub returns : goal.returns
returns c = rw (c.count_of.ensures.0, c.wide16.ensures.0)
