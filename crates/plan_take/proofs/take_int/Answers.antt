use Rattle.plan_take.proofs.Drawn.{int-behind, int-drawn}
use Rattle.plan_take.proofs.take_int.Goals as goal

pub returns : goal.returns
returns c = (int-drawn c.take_number-a.ensures c.take_number-b.ensures c.take_number-c.ensures c.take_number-d.ensures c.first.ensures c.skip-mark.ensures c.first-2.ensures c.skip.ensures, int-behind c.take_number-a.ensures c.take_number-b.ensures c.take_number-c.ensures c.take_number-d.ensures c.first.ensures c.skip-mark.ensures c.first-2.ensures c.skip.ensures, c.skip.ensures.inside)
