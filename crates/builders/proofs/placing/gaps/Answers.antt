use borrow.Author.Tests.{le-ltb, lt-ltb}
use native.Mathlib.Omega.{arith}
use Rattle.builders.proofs.placing.gaps.Goals as goal

pub returns-then-c-to : goal.returns-then-c-to
returns-then-c-to c = (rw (lt-ltb _ _ c.if-c-to.true), omega arith)

pub returns-else-c-to : goal.returns-else-c-to
returns-else-c-to c = (rw (le-ltb _ _ c.if-c-to.false), omega arith)
