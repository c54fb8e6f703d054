use Rattle.field.proofs.is_integer.Goals as goal

pub returns : goal.returns
returns c = rw c.class_of-class.ensures
