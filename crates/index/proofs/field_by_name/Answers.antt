-- The first record of the rtype, the first field of the name in it, and then by its id.
use mathlib.Core.Path.{◌∙◌, sym}
use Rattle.index_rules.specs.Index.{by_name}
use Rattle.index.proofs.field_by_name.Goals as goal

pub returns-in_err-h : goal.returns-in_err-h
unfolding by_name
returns-in_err-h c = rw (c.from_residual.ensures, sym c.first_of.ensures.place ∙ c.in_err-h.was)

pub returns-in_err-named : goal.returns-in_err-named
unfolding by_name
returns-in_err-named c = rw (c.from_residual-in_err-named.ensures, sym c.first_of.ensures.place ∙ c.in_ok-h.was, sym c.name_in.ensures ∙ c.in_err-named.was)

pub returns : goal.returns
unfolding by_name
returns c = rw (sym c.first_of.ensures.place ∙ c.in_ok-h.was, sym c.name_in.ensures ∙ c.in_ok-named.was) c.field_by_id.ensures
