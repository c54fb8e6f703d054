use mathlib.Core.Path.{sym, ◌∙◌}
use Rattle.std.specs.Prelude.{Some, None}
use Rattle.lent.proofs.Turns.{first-stops, first-goes, first-ends}
use Rattle.planner.specs.Select.{of_schema}
use Rattle.planner.proofs.select.first_of_schema.Goals as goal

pub loop-h-init : goal.loop-h-init
loop-h-init c = rw (c.into_iter-h-iterator.ensures.into_iter_gives, c.heads_of-h-items.ensures.heads)

pub returns-then-of_schema : goal.returns-then-of_schema
returns-then-of_schema c =
    first-stops (of_schema c.args.l.now c.args.schema) Some None c.loop-h.invariant c.in-Some.ensures.steps (sym c.of_schema.ensures ∙ c.if-of_schema.true)

pub loop-h-preserved : goal.loop-h-preserved
loop-h-preserved c =
    first-goes (of_schema c.args.l.now c.args.schema) Some None c.loop-h.invariant c.in-Some.ensures.steps (sym c.of_schema.ensures ∙ c.if-of_schema.false)

pub returns : goal.returns
returns c = first-ends (of_schema c.args.l.now c.args.schema) Some None c.loop-h.invariant c.in-None.ensures.steps.0
