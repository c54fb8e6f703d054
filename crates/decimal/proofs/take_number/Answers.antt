use Prim.Native.Nat.{◌<◌}
use Rattle.decimal.proofs.Numbers.{number-end, number-stop, number-turn, past_end, past_stop, past-turn}
use lib.ListN.{length}
use mathlib.Core.Path.{◌≡◌, ◌∙◌, refl, sym}
use native.Mathlib.Omega.{arith}
use Rattle.decimal.proofs.take_number.Goals as goal

pub loop-i-init : goal.loop-i-init
loop-i-init c = (refl, refl)

pub returns-then-not-is_ascii_digit : goal.returns-then-not-is_ascii_digit
returns-then-not-is_ascii_digit c = let e = sym c.is_ascii_digit.ensures.value ∙ c.if-not-is_ascii_digit.true in
    let t : c.loop-i.i < length c.args.text.now = omega arith in
    record { number-there = sym (number-stop c.args.text.now c.loop-i.i t c.loop-i.value e) ∙ c.loop-i.invariant.0; rest = sym (past_stop c.args.text.now c.loop-i.i t e) ∙ c.loop-i.invariant.1; inside = omega arith }

pub loop-i-preserved : goal.loop-i-preserved
loop-i-preserved c = let e = sym c.is_ascii_digit.ensures.value ∙ c.if-not-is_ascii_digit.false in
    let t : c.loop-i.i < length c.args.text.now = omega arith in
    (rw c.push-value.ensures (sym (number-turn c.args.text.now c.loop-i.i t c.loop-i.value e) ∙ c.loop-i.invariant.0), sym (past-turn c.args.text.now c.loop-i.i t e) ∙ c.loop-i.invariant.1)

pub returns : goal.returns
returns c = let l = c.loop-i in
    let e : l.i ≡ length c.args.text.now = omega arith in
    record {
      number-there = sym (number-end c.args.text.now l.i c.loop-i-test.false l.value) ∙ l.invariant.0;
      rest = rw (← e) (sym (past_end c.args.text.now l.i c.loop-i-test.false) ∙ l.invariant.1);
      inside = omega arith;
    }
