use Rattle.tuppenceowl_c.proofs.finding.owl_field_by_id.Goals as goal

pub returns : goal.returns
returns c = rw (← c.field_by_id.ensures) c.tell.ensures
