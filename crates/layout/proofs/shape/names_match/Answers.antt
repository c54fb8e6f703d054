use Rattle.layout.proofs.shape.names_match.Goals as goal

pub returns : goal.returns
returns c = rw (c.part_ok.ensures, c.u32_at-fields.ensures.0, c.u32_at.ensures.0)
