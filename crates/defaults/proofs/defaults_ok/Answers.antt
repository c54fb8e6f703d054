use Prim.Native.Nat.{◌+◌}
use Rattle.defaults.specs.Defaults.{defaults_ok}
use borrow.Author.Tests.{eq-eqb, ne_eqb}
use lib.ListN.{length}
use mathlib.Core.Path.{◌≡◌}
use native.Mathlib.Omega.{arith}
use Rattle.defaults.proofs.defaults_ok.Goals as goal

pub returns-then-body-size : goal.returns-then-body-size
unfolding defaults_ok
returns-then-body-size c = rw (ne_eqb (c.args.header + length c.args.body.now) c.args.size (λ e. c.if-body-size.true (omega arith)))

pub returns-else-gaps_zero : goal.returns-else-gaps_zero
unfolding defaults_ok
returns-else-gaps_zero c = let e : c.args.header + length c.args.body.now ≡ c.args.size = omega arith in
    let gaps = c.if-gaps_zero.false in
    rw (eq-eqb (c.args.header + length c.args.body.now) c.args.size e, ← c.gaps_zero.ensures, gaps)

pub returns-then-gaps_zero : goal.returns-then-gaps_zero
unfolding defaults_ok
returns-then-gaps_zero c = let e : c.args.header + length c.args.body.now ≡ c.args.size = omega arith in
    let gaps = c.if-gaps_zero.true in
    rw (eq-eqb (c.args.header + length c.args.body.now) c.args.size e, ← c.gaps_zero.ensures, gaps) c.marks_hold.ensures
