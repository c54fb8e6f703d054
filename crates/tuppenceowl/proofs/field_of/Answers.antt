use Rattle.tuppenceowl.specs.Answers.{found_of}
use borrow.Author.Tests.{lt-ltb, le-ltb}
use mathlib.Core.Path.{sym, ◌∙◌}
use Rattle.tuppenceowl.proofs.field_of.Goals as goal

pub returns-then-not-alone_ok : goal.returns-then-not-alone_ok
unfolding found_of
returns-then-not-alone_ok c = rw (sym c.alone_ok.ensures ∙ c.if-not-alone_ok.true)

pub returns-then-not-reserved_ok : goal.returns-then-not-reserved_ok
unfolding found_of
returns-then-not-reserved_ok c = rw (sym c.alone_ok.ensures ∙ c.if-not-alone_ok.false, sym c.reserved_ok.ensures ∙ c.if-not-reserved_ok.true)

pub returns-then-k-table : goal.returns-then-k-table
unfolding found_of
returns-then-k-table c = rw (
  sym c.alone_ok.ensures ∙ c.if-not-alone_ok.false,
  sym c.reserved_ok.ensures ∙ c.if-not-reserved_ok.false,
  lt-ltb _ _ c.if-k-table.true,
  c.field_in.ensures,
)

pub returns : goal.returns
unfolding found_of
returns c = rw (
  sym c.alone_ok.ensures ∙ c.if-not-alone_ok.false,
  sym c.reserved_ok.ensures ∙ c.if-not-reserved_ok.false,
  le-ltb _ _ c.if-k-table.false,
)
