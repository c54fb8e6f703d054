use Prim.Native.Nat.{◌*◌, ◌+◌, ◌-◌}
use Rattle.slot.proofs.Checking.{keeps-ends, keeps-goes, keeps-stops}
use Rattle.slot.specs.Slot.{count_in, steps_from}
use mathlib.Core.Bool.{false, true}
use mathlib.Core.Path.{◌≡◌}
use native.Mathlib.Omega.{arith}
use Rattle.slot.proofs.check.steps_ok.Goals as goal

pub loop-k-init : goal.loop-k-init
loop-k-init c =
    let whole : count_in c.args.slot.now - 0 ≡ count_in c.args.slot.now = omega arith in
    rw (c.number_in-size.ensures.0, c.number_in-low.ensures.0, whole)

pub returns-then-not-flags_ok : goal.returns-then-not-flags_ok
returns-then-not-flags_ok c = let f : c.flags_ok.result ≡ false = c.if-not-flags_ok.true in
    keeps-stops c.args.slot.now (steps_from + 16 * c.loop-k.k) (count_in c.args.slot.now - c.loop-k.k) c.loop-k.low c.number_in-size.result _ c.loop-k.invariant (omega arith) (rw (← c.flags_ok.ensures, f))

pub returns-then-not-is_ok : goal.returns-then-not-is_ok
returns-then-not-is_ok c = let f : c.flags_ok.result ≡ true = c.if-not-flags_ok.false in
    let o : c.is_ok.result ≡ false = c.if-not-is_ok.true in
    keeps-stops c.args.slot.now (steps_from + 16 * c.loop-k.k) (count_in c.args.slot.now - c.loop-k.k) c.loop-k.low c.number_in-size.result _ c.loop-k.invariant (omega arith)
    (rw (← c.flags_ok.ensures, f, ← c.step_in-step.ensures, ← c.is_ok.ensures, o))

pub returns-then-not-is_within : goal.returns-then-not-is_within
returns-then-not-is_within c = let f : c.flags_ok.result ≡ true = c.if-not-flags_ok.false in
    let o : c.is_ok.result ≡ true = c.if-not-is_ok.false in
    let w : c.is_within.result ≡ false = c.if-not-is_within.true in
    keeps-stops c.args.slot.now (steps_from + 16 * c.loop-k.k) (count_in c.args.slot.now - c.loop-k.k) c.loop-k.low c.number_in-size.result _ c.loop-k.invariant (omega arith)
    (rw (← c.flags_ok.ensures, f, ← c.step_in-step.ensures, ← c.is_ok.ensures, o, ← c.is_within.ensures, w))

pub loop-k-preserved : goal.loop-k-preserved
loop-k-preserved c = let f : c.flags_ok.result ≡ true = c.if-not-flags_ok.false in
    let o : c.is_ok.result ≡ true = c.if-not-is_ok.false in
    let w : c.is_within.result ≡ true = c.if-not-is_within.false in
    let at : steps_from + 16 * (c.loop-k.k + 1) ≡ (steps_from + 16 * c.loop-k.k) + 16 = omega arith in
    let left : count_in c.args.slot.now - (c.loop-k.k + 1) ≡ count_in c.args.slot.now - c.loop-k.k - 1 = omega arith in
    rw (c.end-low.ensures.0, c.step_in-step.ensures, at, left)
    (keeps-goes c.args.slot.now (steps_from + 16 * c.loop-k.k) (count_in c.args.slot.now - c.loop-k.k) c.loop-k.low c.number_in-size.result _ c.loop-k.invariant (omega arith)
    (rw (← c.flags_ok.ensures, f, ← c.step_in-step.ensures, ← c.is_ok.ensures, o, ← c.is_within.ensures, w)))

pub returns : goal.returns
returns c = keeps-ends c.args.slot.now (steps_from + 16 * c.loop-k.k) (count_in c.args.slot.now - c.loop-k.k) c.loop-k.low c.number_in-size.result _ c.loop-k.invariant (omega arith)
