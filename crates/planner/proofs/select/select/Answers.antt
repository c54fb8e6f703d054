use borrow.Author.Tests.{le-ltb, lt-ltb}
use mathlib.Core.Path.{◌∙◌, sym}
use Rattle.admission_rules.proofs.When.{raised}
use Rattle.planner.specs.Select.{selected_of}
use Rattle.planner.proofs.select.select.Goals as goal

pub returns-in_err-admit_both : goal.returns-in_err-admit_both
unfolding selected_of
returns-in_err-admit_both c = rw (sym c.admit_both.ensures ∙ c.in_err-admit_both.was) (raised _ _ c.from_residual.ensures.1)

pub returns-then-k-count_of : goal.returns-then-k-count_of
unfolding selected_of
returns-then-k-count_of c =
    rw (sym c.admit_both.ensures ∙ c.in_ok-admit_both.was, ← c.count_of.ensures.0, lt-ltb _ _ c.if-k-count_of.true, ← c.record_head.ensures.0, ← c.choose.ensures, ← c.as_selected.ensures)

pub returns : goal.returns
unfolding selected_of
returns c = rw (sym c.admit_both.ensures ∙ c.in_ok-admit_both.was, ← c.count_of.ensures.0, le-ltb _ _ c.if-k-count_of.false)
