use Rattle.layout.specs.Shape.{shape_ok}
use mathlib.Core.Path.{sym, ◌∙◌}
use Rattle.layout.proofs.shape.shape_ok.Goals as goal

pub returns-then-not-counts_ok : goal.returns-then-not-counts_ok
unfolding shape_ok
returns-then-not-counts_ok c = rw (sym c.counts_ok.ensures ∙ c.if-not-counts_ok.true)

pub returns : goal.returns
unfolding shape_ok
returns c = rw (sym c.counts_ok.ensures ∙ c.if-not-counts_ok.false, c.heads_shape.ensures, c.heads_shape-2.ensures)
