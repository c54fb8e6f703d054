use Rattle.tuppenceowl_c.proofs.hashing.owl_layout_hash_within.Goals as goal

pub returns : goal.returns
returns c = rw (← c.layout_hash_within.ensures) c.tell.ensures
