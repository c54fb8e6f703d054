use mathlib.Core.Path.{◌∙◌}
use Rattle.lent.proofs.Scan.{alike-is}
use lib.Dec.{eqb}
use Rattle.lent.proofs.same.Goals as goal

pub returns : goal.returns
returns c = c.eq.ensures ∙ alike-is eqb c.args.a.now c.args.b.now
