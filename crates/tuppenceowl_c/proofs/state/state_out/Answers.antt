use Rattle.tuppenceowl_c.proofs.state.state_out.Goals as goal

pub returns : goal.returns
returns c = rw (c.wide8.ensures.0, c.one.ensures)
