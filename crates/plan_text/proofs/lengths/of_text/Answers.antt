use Prim.Native.Nat.{◌-◌}
use Rattle.plan_text.proofs.Whole.{body-wide, text-length}
use Rattle.slot.specs.Slot.{count_in, header_in, size_in}
use mathlib.Core.Path.{◌≡◌}
use native.Mathlib.Omega.{arith}
use Rattle.plan_text.proofs.lengths.of_text.Goals as goal

pub returns : goal.returns
returns c = let h = c.requires in
    let n : c.wide16-size.result - c.wide16-header.result ≡ size_in c.args.slot.now - header_in c.args.slot.now = omega arith in
    let k : c.wide16-count.result ≡ count_in c.args.slot.now = omega arith in
    let s = rw k at c.of_steps.ensures.0 in
    let t = text-length c.args.slot.now h in
    let b = body-wide c.args.slot.now h in
    (omega arith, omega arith)
