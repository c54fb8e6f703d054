use Rattle.calls.proofs.noted.Goals as goal

pub returns : goal.returns
returns c = rw c.base_of.ensures
