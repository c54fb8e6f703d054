-- The refusal of admission; else the record, if there is one.
use Rattle.admission_rules.proofs.When.{raised}
use Rattle.tuppenceowl.specs.Answers.{sized_of}
use borrow.Author.Tests.{lt-ltb, le-ltb}
use mathlib.Core.Path.{sym, ◌∙◌}
use Rattle.tuppenceowl.proofs.record_size.Goals as goal

pub returns-in_err-admit : goal.returns-in_err-admit
unfolding sized_of
returns-in_err-admit c = rw (sym c.admit.ensures ∙ c.in_err-admit.was) (raised _ _ c.from_residual.ensures.1)

pub returns-then-k-count_of : goal.returns-then-k-count_of
unfolding sized_of
returns-then-k-count_of c =
    rw (sym c.admit.ensures ∙ c.in_ok-admit.was, ← c.count_of.ensures.0, lt-ltb _ _ c.if-k-count_of.true, c.record_size.ensures, c.record_head.ensures.0)

pub returns : goal.returns
unfolding sized_of
returns c = rw (sym c.admit.ensures ∙ c.in_ok-admit.was, ← c.count_of.ensures.0, le-ltb _ _ c.if-k-count_of.false)
