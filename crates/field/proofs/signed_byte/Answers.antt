-- A byte of 128 or more is itself less 256.
use Rattle.field.proofs.Scale.{less-fits, less-narrow, less-signed}
use native.Mathlib.Omega.{arith}
use Rattle.field.proofs.signed_byte.Goals as goal

pub overflow_sub-result : goal.overflow_sub-result
overflow_sub-result c = less-fits c.args.b (omega arith) c.if-b-lt128.false

pub overflow_cast-result-3 : goal.overflow_cast-result-3
overflow_cast-result-3 c = less-narrow c.args.b (omega arith) c.if-b-lt128.false

pub returns : goal.returns
returns c = less-signed c.args.b (omega arith) c.if-b-lt128.false
