use Rattle.tuppenceowl_c.proofs.admitting.owl_admit.Goals as goal

pub returns : goal.returns
returns c = rw (← c.admit.ensures) c.status.ensures
