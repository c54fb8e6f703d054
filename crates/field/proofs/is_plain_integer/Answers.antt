use Rattle.field.proofs.is_plain_integer.Goals as goal

pub returns : goal.returns
returns c = rw (c.is_integer.ensures, c.is_array.ensures)
