use Rattle.tuppenceowl_c.proofs.hashing.owl_layout_hash.Goals as goal

pub returns : goal.returns
returns c = rw (← c.layout_hash.ensures) c.tell.ensures
