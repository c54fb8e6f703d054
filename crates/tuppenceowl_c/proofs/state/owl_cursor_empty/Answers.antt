use Rattle.tuppenceowl_c.proofs.state.owl_cursor_empty.Goals as goal

pub returns : goal.returns
returns c = rw (c.state_out.ensures, c.empty.ensures, c.holder_of.ensures)
