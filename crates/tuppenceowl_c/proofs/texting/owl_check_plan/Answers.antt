use Rattle.tuppenceowl_c.proofs.texting.owl_check_plan.Goals as goal

pub returns : goal.returns
returns c = rw (← c.check_plan.ensures) c.status.ensures
