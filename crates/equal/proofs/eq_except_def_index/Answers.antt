use Rattle.equal_rules.specs.Equal.{eq_except_def_index}
use mathlib.Core.Path.{refl}
use Rattle.equal.proofs.eq_except_def_index.Goals as goal

pub returns : goal.returns
unfolding eq_except_def_index
returns c = refl
