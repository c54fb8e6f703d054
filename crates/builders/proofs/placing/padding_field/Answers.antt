use Rattle.builders.proofs.placing.padding_field.Goals as goal

pub returns : goal.returns
returns c = rw (c.padding_id.ensures, c.id_of.ensures)
