use Rattle.coalesce.specs.Joins.{joins}
use Rattle.coalesce.proofs.join_runs.Goals as goal

pub returns-then-inside-adjacent : goal.returns-then-inside-adjacent
unfolding joins
returns-then-inside-adjacent c = rw (← c.inside.ensures, ← c.inside-2.ensures, ← c.adjacent.ensures, c.if-inside-adjacent.true)

pub returns : goal.returns
unfolding joins
returns c = rw (← c.inside.ensures, ← c.inside-2.ensures, ← c.adjacent.ensures, c.if-inside-adjacent.false)
