use Prim.Native.Nat.{◌-◌}
use Rattle.decimal.proofs.Puts.{put_then}
use Rattle.plan_text.proofs.Whole.{text-length, text-parts}
use Rattle.slot.specs.Slot.{count_in, header_in, size_in}
use mathlib.Core.Path.{◌≡◌}
use native.Mathlib.Omega.{arith}
use Rattle.plan_text.proofs.writer.put_text.Goals as goal

pub put_head-head-requires : goal.put_head-head-requires
put_head-head-requires c = let t = text-length c.args.slot.now c.requires.0 in (c.requires.0.long, omega arith)

pub put_body-body-requires : goal.put_body-body-requires
put_body-body-requires c = let h = c.requires.0 in
    let t = text-length c.args.slot.now h in
    let a = c.put_head-head.ensures.behind in
    let n : c.wide16-size.result - c.wide16-header.result ≡ size_in c.args.slot.now - header_in c.args.slot.now = omega arith in
    (h.long, omega arith, rw n (omega arith))

pub put_steps-requires : goal.put_steps-requires
put_steps-requires c = let h = c.requires.0 in
    let t = text-length c.args.slot.now h in
    let a = c.put_head-head.ensures.behind in
    let n : c.wide16-size.result - c.wide16-header.result ≡ size_in c.args.slot.now - header_in c.args.slot.now = omega arith in
    let k : c.wide16-count.result ≡ count_in c.args.slot.now = omega arith in
    let b = rw n at c.put_body-body.ensures.behind in
    (omega arith, rw k (omega arith))

pub returns : goal.returns
returns c = let n : c.wide16-size.result - c.wide16-header.result ≡ size_in c.args.slot.now - header_in c.args.slot.now = omega arith in
    let k : c.wide16-count.result ≡ count_in c.args.slot.now = omega arith in
    let b = rw n at c.put_body-body.ensures in
    let s = rw k at c.put_steps.ensures in
    rw (text-parts c.args.slot.now) (put_then c.put_head-head.ensures (put_then b s)).stored
