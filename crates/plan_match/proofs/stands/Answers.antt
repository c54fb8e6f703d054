use lib.Seq.{length-take-le}
use mathlib.Core.Path.{sym}
use Rattle.plan_match.proofs.stands.Goals as goal

pub slice_bounds-same-end : goal.slice_bounds-same-end
slice_bounds-same-end c = sym (length-take-le c.args.n c.args.line.now (c.requires))

pub returns : goal.returns
returns c = rw c.window.ensures at c.same.ensures
