use Rattle.tuppenceowl_c.proofs.comparing.owl_verdict_of.Goals as goal

pub returns : goal.returns
returns c = rw (← c.verdict_of.ensures) c.status.ensures
