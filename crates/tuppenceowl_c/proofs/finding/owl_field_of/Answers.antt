use Rattle.tuppenceowl_c.proofs.finding.owl_field_of.Goals as goal

pub returns : goal.returns
returns c = rw (← c.field_of.ensures) c.tell.ensures
