use Rattle.record_size.proofs.record_size.Goals as goal

pub returns : goal.returns
returns c = rw (c.greater.ensures, c.record_base.ensures, c.last_end.ensures, c.table_at.ensures)
