use mathlib.Core.Path.{sym, ◌∙◌}
use Rattle.std.proofs.Common.{Some}
use Rattle.lent.proofs.Turns.{last-goes, last-ends}
use Rattle.index_rules.specs.Index.{has_id}
use Rattle.index.proofs.last_in.Goals as goal

pub loop-f-preserved-then-has_id : goal.loop-f-preserved-then-has_id
loop-f-preserved-then-has_id c =
    let e = sym c.has_id.ensures ∙ c.if-has_id.true in
    rw e at (last-goes (has_id c.args.cat.now c.args.id) Some c.loop-f.found c.loop-f.invariant c.in-Some.ensures.steps)

pub loop-f-preserved : goal.loop-f-preserved
loop-f-preserved c =
    let e = sym c.has_id.ensures ∙ c.if-has_id.false in
    rw e at (last-goes (has_id c.args.cat.now c.args.id) Some c.loop-f.found c.loop-f.invariant c.in-Some.ensures.steps)

pub returns : goal.returns
returns c = last-ends (has_id c.args.cat.now c.args.id) Some c.loop-f.found c.loop-f.invariant c.in-None.ensures.steps.0
