use Rattle.field.proofs.is_array.Goals as goal

pub returns : goal.returns
returns c = rw c.array_flag.ensures
