use Rattle.decimal.proofs.Numbers.{skip-in, skip-out}
use native.Mathlib.Omega.{arith}
use Rattle.decimal.proofs.skip.Goals as goal

pub returns-then-text-at : goal.returns-then-text-at
returns-then-text-at c = record { rest = skip-out c.args.text.now c.args.at c.args.n c.if-text-at.true; inside = omega arith }

pub returns : goal.returns
returns c = record { rest = skip-in c.args.text.now c.args.at c.args.n; inside = omega arith }
