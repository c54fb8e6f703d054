use Rattle.table_rules.proofs.Tidy.{tidy-stops, tidy-goes, tidy-ends}
use Rattle.table.proofs.tidy_ok.Goals as goal

pub returns-then-not-low-from : goal.returns-then-not-low-from
returns-then-not-low-from c = tidy-stops c.args.cat.now c.args.most c.loop-f.low c.loop-f.invariant c.in-Some.ensures.steps
    (rw (← c.alone_ok.ensures, ← c.from.ensures) c.if-not-low-from.true)

pub loop-f-preserved : goal.loop-f-preserved
loop-f-preserved c = rw c.end_of-low.ensures.0 (tidy-goes c.args.cat.now c.args.most c.loop-f.low c.loop-f.invariant c.in-Some.ensures.steps
    (rw (← c.alone_ok.ensures, ← c.from.ensures) c.if-not-low-from.false))

pub returns : goal.returns
returns c = tidy-ends c.args.cat.now c.args.most c.loop-f.low c.loop-f.invariant c.in-None.ensures.steps.0
