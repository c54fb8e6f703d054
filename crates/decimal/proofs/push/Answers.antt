-- A number that does not fit is the largest.
use Prim.Native.Nat.{ℕ, ◌<◌}
use borrow.Author.Tests.{le-leb, lt-leb}
use lib.Dec.{leb}
use mathlib.Core.Bool.{cond}
use mathlib.Core.Path.{◌≡◌, ◌∙◌}
use native.Mathlib.Omega.{arith}
use Rattle.std.proofs.Common.{Result, Ok, Err}
use Rattle.std.specs.Result.{OkIff, result_unwrap_or}
use Rattle.decimal.specs.Decimal.{pushed}
use Rattle.decimal.proofs.push.Goals as goal

capped : {E : Type 0} (r : Result ℕ E) (more : ℕ) → OkIff r (more < 65536) more → result_unwrap_or r 65535 ≡ cond (leb more 65535) more 65535
capped (Ok x) more h = rw (h.1, le-leb more 65535 (let l = h.0 in omega arith))
capped (Err e) more h = rw (lt-leb more 65535 (omega (arith, h)))

pub returns : goal.returns
unfolding pushed
returns c = c.unwrap_or.ensures ∙ capped c.try_from.result _ c.try_from.ensures
