use mathlib.Core.Path.{◌∙◌}
use Rattle.calls.proofs.string.Goals as goal

pub returns-clause-made : goal.returns-clause-made
returns-clause-made c = c.place.ensures.made ∙ rw c.class_of-takes.ensures
