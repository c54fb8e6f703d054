use Rattle.admission.proofs.layout_ok.Goals as goal

pub returns : goal.returns
returns c = rw (c.tables_ok.ensures, c.tables_ok-2.ensures)
