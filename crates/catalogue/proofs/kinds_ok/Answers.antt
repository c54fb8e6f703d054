use Rattle.catalogue.specs.Catalogue.{kind_ok}
use Rattle.lent.proofs.Scan.{gathers, gathered}
use Rattle.lent.specs.Bytes.{byte_at}
use mathlib.Core.Path.{◌≡◌, refl}
use Prim.Native.Nat.{◌+◌, ◌-◌, ◌<◌}
use native.Mathlib.Omega.{arith}
use lib.ListN.{length-take}
use lib.Seq.{get_or-take}
use Rattle.catalogue.proofs.kinds_ok.Goals as goal

pub slice_bounds-kind-items-end : goal.slice_bounds-kind-items-end
slice_bounds-kind-items-end c = omega (arith, length-take 256 c.args.cat.now)

pub loop-kind-init : goal.loop-kind-init
loop-kind-init c = refl

pub loop-kind-preserved : goal.loop-kind-preserved
loop-kind-preserved c = let l = c.loop-kind in
    let h : l.kind-index < 256 = omega (arith, length-take 256 c.args.cat.now) in
    let e : 256 - (l.kind-index + 1) ≡ 256 - l.kind-index - 1 = omega arith in
    rw (c.kind_ok-good.ensures, get_or-take 256 c.args.cat.now l.kind-index 0 h, e)
    (gathers (byte_at c.args.cat.now) 1 l.kind-index (256 - l.kind-index) kind_ok l.good _ l.invariant (omega arith))

pub returns : goal.returns
returns c = let l = c.loop-kind in
    gathered (byte_at c.args.cat.now) 1 l.kind-index (256 - l.kind-index) kind_ok l.good _ l.invariant (omega (arith, length-take 256 c.args.cat.now))
