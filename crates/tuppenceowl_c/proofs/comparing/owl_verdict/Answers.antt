use Rattle.tuppenceowl_c.proofs.comparing.owl_verdict.Goals as goal

pub returns : goal.returns
returns c = rw (← c.verdict.ensures) c.status.ensures
