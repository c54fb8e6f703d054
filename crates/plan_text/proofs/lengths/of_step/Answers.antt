use Rattle.plan_text.proofs.Laid.{copy-length, int-length}
use native.Mathlib.Omega.{arith}
use Rattle.plan_text.proofs.lengths.of_step.Goals as goal

pub returns-in-Copy : goal.returns-in-Copy
returns-in-Copy c = (rw (c.in-Copy.is, copy-length) (omega arith), omega arith)

pub returns-in-Int : goal.returns-in-Int
returns-in-Int c = (rw (c.in-Int.is, int-length) (omega arith), omega arith)
