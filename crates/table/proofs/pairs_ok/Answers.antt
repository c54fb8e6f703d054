use Rattle.std.proofs.Common.{sym, ◌∙◌}
use Rattle.table_rules.proofs.Pairs.{pairs-stop, pairs-go, pairs_end}
use Rattle.table.proofs.pairs_ok.Goals as goal

pub returns-then-not-clear_of : goal.returns-then-not-clear_of
returns-then-not-clear_of c = pairs-stop c.loop-f.invariant c.in-Some.ensures.steps (sym c.clear_of.ensures ∙ c.if-not-clear_of.true)

pub loop-f-preserved : goal.loop-f-preserved
loop-f-preserved c = pairs-go c.loop-f.invariant c.in-Some.ensures.steps (sym c.clear_of.ensures ∙ c.if-not-clear_of.false)

pub returns : goal.returns
returns c = pairs_end c.loop-f.invariant c.in_default.ensures.steps.0
