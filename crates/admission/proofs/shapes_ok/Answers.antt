use Rattle.layout.specs.Shape.{shape_ok}
use Rattle.lent.proofs.Scan.{and-true}
use Rattle.lent.specs.Scan.{every}
use mathlib.Core.Path.{sym}
use Rattle.admission.proofs.shapes_ok.Goals as goal

pub returns-then-both : goal.returns-then-both
unfolding every
returns-then-both c = rw (c.if-both.true, c.shape_ok.ensures, c.shape_ok-then-both.ensures, and-true (shape_ok c.args.b.now))

pub returns : goal.returns
unfolding every
returns c = rw (c.if-both.false, c.shape_ok-2.ensures) (sym (and-true (shape_ok c.args.a.now)))
