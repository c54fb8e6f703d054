use Rattle.layout.proofs.block.part_at.Goals as goal

pub returns : goal.returns
returns c = rw (← c.u32_at.ensures.0, ← c.u32_at-2.ensures.0) c.part.ensures
