use Rattle.calls.proofs.takes_scalar.Goals as goal

pub returns : goal.returns
returns c = rw (c.class_of.ensures, c.width_of.ensures)
