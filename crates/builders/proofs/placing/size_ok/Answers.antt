use Rattle.builders.proofs.placing.size_ok.Goals as goal

pub returns : goal.returns
returns c = rw (c.is_array.ensures, c.width_of-width.ensures)
