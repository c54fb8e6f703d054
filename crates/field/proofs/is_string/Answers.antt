use Rattle.field.proofs.is_string.Goals as goal

pub returns : goal.returns
returns c = rw c.class_of.ensures
