use Rattle.plan_take.proofs.Drawn.{copy-behind, copy-drawn}
use Rattle.plan_take.proofs.take_copy.Goals as goal

pub returns : goal.returns
returns c = (copy-drawn c.take_number-a.ensures c.take_number-b.ensures c.take_number-c.ensures, copy-behind c.take_number-a.ensures c.take_number-b.ensures c.take_number-c.ensures, c.take_number-c.ensures.inside)
