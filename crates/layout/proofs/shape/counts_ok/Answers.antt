use Rattle.layout.proofs.shape.counts_ok.Goals as goal

pub returns : goal.returns
returns c = rw (c.count_of-records.ensures.0, c.count_of-structs.ensures.0, c.heads_from.ensures.0)
