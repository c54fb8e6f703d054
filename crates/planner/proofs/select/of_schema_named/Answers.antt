use mathlib.Core.Path.{◌∙◌, sym}
use Rattle.planner.proofs.select.of_schema_named.Goals as goal

pub returns-in_err-h : goal.returns-in_err-h
returns-in_err-h c = rw (c.from_residual.ensures, sym c.first_of_schema.ensures ∙ c.in_err-h.was)

pub returns-then-same : goal.returns-then-same
returns-then-same c =
    rw (sym c.first_of_schema.ensures ∙ c.in_ok-h.was, ← c.record_name.ensures, ← c.record_name-2.ensures, ← c.same.ensures, c.if-same.true)

pub returns : goal.returns
returns c =
    rw (sym c.first_of_schema.ensures ∙ c.in_ok-h.was, ← c.record_name.ensures, ← c.record_name-2.ensures, ← c.same.ensures, c.if-same.false)
