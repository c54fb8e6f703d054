use Rattle.calls_rules.proofs.Ends.{scale_back}
use mathlib.Core.Path.{◌∙◌}
use Rattle.calls.proofs.scalar.Goals as goal

pub returns-clause-made : goal.returns-clause-made
returns-clause-made c = c.place.ensures.made ∙ rw (c.takes_scalar-takes.ensures, c.width.ensures.0, c.scale_of.ensures, scale_back c.args.cat.now c.args.type_id)
