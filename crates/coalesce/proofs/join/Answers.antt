-- A step that is no copy joins none.
use Rattle.std.proofs.Common.{◌∙◌}
use Rattle.coalesce.specs.Joins.{joins}
use Rattle.coalesce.proofs.join.Goals as goal

pub returns-in_err-run_of : goal.returns-in_err-run_of
unfolding joins
returns-in_err-run_of c = c.from_residual.ensures ∙ rw c.in_err-run_of.ensures.integer

pub returns-in_err-run_of-2 : goal.returns-in_err-run_of-2
unfolding joins
returns-in_err-run_of-2 c = c.from_residual-in_err-run_of-2.ensures ∙ rw (c.in_ok-run_of.ensures.copied, c.in_err-run_of-2.ensures.integer)

pub returns : goal.returns
returns c = rw (c.in_ok-run_of.ensures.copied, c.in_ok-run_of-2.ensures.copied) c.join_runs.ensures
