use Rattle.tuppenceowl.specs.Comparing.{found_by_id}
use Rattle.tuppenceowl.proofs.Inside.{passed_on}
use mathlib.Core.Path.{sym, ◌∙◌}
use Rattle.tuppenceowl.proofs.comparing.field_by_id.Goals as goal

pub returns-in_err-admit : goal.returns-in_err-admit
unfolding found_by_id
returns-in_err-admit c = rw (sym c.admit.ensures ∙ c.in_err-admit.was) (passed_on _ _ c.from_residual.ensures.1)

pub returns : goal.returns
unfolding found_by_id
returns c = rw (sym c.admit.ensures ∙ c.in_ok-admit.was, ← c.field_by_id.ensures)
