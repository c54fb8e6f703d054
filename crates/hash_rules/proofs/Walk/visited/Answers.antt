use Rattle.hash_rules.specs.Parts.{visit_of}
use borrow.Author.Tests.{lt-ltb, le-ltb}
use mathlib.Core.Path.{sym, ◌∙◌}
use Rattle.hash_rules.proofs.Walk.visited.Goals as goal

pub returns-then-self-so_far-clause-visit : goal.returns-then-self-so_far-clause-visit
unfolding visit_of
returns-then-self-so_far-clause-visit c = rw (le-ltb _ _ c.if-self-so_far.true)

pub returns-then-not-names_struct-clause-visit : goal.returns-then-not-names_struct-clause-visit
unfolding visit_of
returns-then-not-names_struct-clause-visit c = rw (lt-ltb _ _ c.if-self-so_far.false, sym c.names_struct.ensures ∙ c.if-not-names_struct.true, c.field_sum-fp.ensures)

pub returns-clause-visit : goal.returns-clause-visit
unfolding visit_of
returns-clause-visit c = rw (
  lt-ltb _ _ c.if-self-so_far.false,
  sym c.names_struct.ensures ∙ c.if-not-names_struct.false,
  c.size_sum-fp.ensures,
  c.field_sum-fp.ensures,
  c.struct_size.ensures,
  c.struct_head-head.ensures.0,
)
