use mathlib.Core.Path.{sym, ◌∙◌}
use Rattle.layout.proofs.shape.names_shape.Goals as goal

pub returns-then-not-names_match : goal.returns-then-not-names_match
returns-then-not-names_match c = rw (sym c.names_match.ensures ∙ c.if-not-names_match.true)

pub returns : goal.returns
returns c = rw (sym c.names_match.ensures ∙ c.if-not-names_match.false, ← c.u32_at-fields.ensures.0, ← c.u32_at.ensures.0) c.names_ok.ensures
