use Rattle.plan_take.proofs.Drawn.{as_copy, as_int, past-copy, past-int}
use Rattle.plan_take.proofs.take_step.Goals as goal

pub returns-then-first-eq99 : goal.returns-then-first-eq99
returns-then-first-eq99 c = (as_copy c.first.ensures c.if-first-eq99.true c.skip.ensures c.take_copy.result.step c.take_copy.ensures.0, past-copy c.first.ensures c.if-first-eq99.true c.skip.ensures c.take_copy.result.next c.take_copy.ensures.1, c.take_copy.ensures.2)

pub returns : goal.returns
returns c = (as_int c.first.ensures c.if-first-eq99.false c.skip-2.ensures c.take_int.result.step c.take_int.ensures.0, past-int c.first.ensures c.if-first-eq99.false c.skip-2.ensures c.take_int.result.next c.take_int.ensures.1, c.take_int.ensures.2)
