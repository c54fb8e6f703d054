use Rattle.admission_rules.specs.Parts.{layout_passes}
use Rattle.lent.proofs.Scan.{and-true}
use Rattle.lent.specs.Scan.{every}
use mathlib.Core.Path.{sym}
use Rattle.admission.proofs.layouts_ok.Goals as goal

pub returns-then-both : goal.returns-then-both
unfolding every
returns-then-both c = rw (c.if-both.true, c.layout_ok.ensures, c.layout_ok-then-both.ensures, and-true (layout_passes c.args.test c.args.cat.now c.args.b.now))

pub returns : goal.returns
unfolding every
returns c = rw (c.if-both.false, c.layout_ok-2.ensures) (sym (and-true (layout_passes c.args.test c.args.cat.now c.args.a.now)))
