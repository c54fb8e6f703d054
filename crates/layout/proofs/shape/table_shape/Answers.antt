use Rattle.layout.proofs.shape.table_shape.Goals as goal

pub returns : goal.returns
returns c = rw (c.part_ok.ensures, c.u32_at-n.ensures.0)
