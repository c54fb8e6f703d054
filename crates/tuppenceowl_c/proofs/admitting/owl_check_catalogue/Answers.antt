use Rattle.tuppenceowl_c.proofs.admitting.owl_check_catalogue.Goals as goal

pub returns : goal.returns
returns c = rw (← c.check_catalogue.ensures) c.status.ensures
