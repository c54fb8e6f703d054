use Rattle.field.proofs.counts.Goals as goal

pub returns : goal.returns
returns c = rw (c.is_padding.ensures, c.header_id.ensures)
