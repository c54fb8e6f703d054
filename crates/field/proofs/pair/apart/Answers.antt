use Rattle.field.proofs.pair.apart.Goals as goal

pub returns : goal.returns
returns c = rw (c.same_scale.ensures, c.is_array.ensures, c.is_array-2.ensures)
