use Rattle.std.proofs.Common.{◌∙◌}
use Rattle.lent.proofs.Chains.{some-is}
use Rattle.dispatch.specs.Dispatch.{listed}
use lib.Dec.{eqb}
use Rattle.dispatch.proofs.choice.is_listed.Goals as goal

pub returns : goal.returns
unfolding listed
returns c = c.contains.ensures.value ∙ some-is (λ one. eqb one c.args.rtype) c.args.unplanned.now
