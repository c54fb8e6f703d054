use Rattle.catalogue.specs.Catalogue.{width_of}
use Rattle.lent.proofs.Turns.{highest-ends, highest-goes}
use native.Mathlib.Omega.{arith}
use Rattle.calls.proofs.widest.Goals as goal

pub loop-f-preserved : goal.loop-f-preserved
loop-f-preserved c = (
  omega arith,
  rw (c.max-most.ensures, c.width.ensures.0)
      (highest-goes (λ f. width_of c.args.cat.now f.type_id) c.loop-f.most c.loop-f.invariant.1 c.in-Some.ensures.steps),
)

pub returns : goal.returns
returns c = (highest-ends (λ f. width_of c.args.cat.now f.type_id) c.loop-f.most c.loop-f.invariant.1 c.in-None.ensures.steps.0, omega arith)
