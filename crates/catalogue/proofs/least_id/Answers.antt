use mathlib.Core.Path.{◌∙◌}
use Prim.Native.Nat.{◌<◌}
use native.Mathlib.Omega.{arith}
use lib.ListN.{length-take}
use lib.Seq.{get_or-take}
use Rattle.catalogue.proofs.First.{least-starts, least-goes, least-ends}
use Rattle.catalogue.proofs.least_id.Goals as goal

pub loop-id-init : goal.loop-id-init
loop-id-init c = (omega arith, least-starts c.args.cat.now c.args.class)

pub loop-id-preserved : goal.loop-id-preserved
loop-id-preserved c = let l = c.loop-id in
    let h : l.id < 256 = omega (arith, length-take 256 c.args.cat.now) in
    least-goes c.args.cat.now c.args.class l.best l.id _ l.invariant.0 l.invariant.1 h c.min-best.result
    (c.min-best.ensures ∙ rw (c.id_if.ensures, get_or-take 256 c.args.cat.now l.id 0 h))

pub returns : goal.returns
returns c = let l = c.loop-id in
    least-ends c.args.cat.now c.args.class l.best l.id _ l.invariant.0 l.invariant.1 (omega (arith, length-take 256 c.args.cat.now))
