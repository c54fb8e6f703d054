use Rattle.field.proofs.pair.same_kind.Goals as goal

pub returns : goal.returns
returns c = rw (c.same_scale.ensures, c.same_arrayness.ensures)
