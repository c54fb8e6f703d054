use Rattle.tuppenceowl_c.proofs.finding.owl_field_by_name.Goals as goal

pub returns : goal.returns
returns c = rw (← c.field_by_name.ensures) c.tell.ensures
