use Rattle.field.specs.Field.{end_of}
use Rattle.lent.proofs.Turns.{highest-goes, highest-ends}
use Rattle.record_size.proofs.last_end.Goals as goal

pub loop-f-preserved : goal.loop-f-preserved
loop-f-preserved c = rw (c.greater-end.ensures, c.end_of.ensures.0) (highest-goes end_of c.loop-f.end c.loop-f.invariant c.in-Some.ensures.steps)

pub returns : goal.returns
returns c = highest-ends end_of c.loop-f.end c.loop-f.invariant c.in-None.ensures.steps.0
