use Rattle.layout.proofs.shape.name_ok.Goals as goal

pub returns : goal.returns
returns c = rw (c.wide8.ensures.0, c.byte_at.ensures)
