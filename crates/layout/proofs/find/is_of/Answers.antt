use Rattle.layout.proofs.find.is_of.Goals as goal

pub returns : goal.returns
returns c = rw c.record_rtype.ensures
