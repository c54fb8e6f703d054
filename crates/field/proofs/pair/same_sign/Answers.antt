use Rattle.field.proofs.pair.same_sign.Goals as goal

pub returns : goal.returns
returns c = rw (c.class_of.ensures, c.class_of-2.ensures, c.is_integer.ensures)
