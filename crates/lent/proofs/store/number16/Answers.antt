use Prim.Native.Nat.{◌+◌, suc}
use lib.ListN.{length-set}
use mathlib.Core.Path.{◌≡◌}
use native.Mathlib.Omega.{arith}
use Rattle.lent.proofs.store.number16.Goals as goal

pub bounds-d-at-2 : goal.bounds-d-at-2
bounds-d-at-2 c = simp length-set (omega arith)

pub returns : goal.returns
returns c = let e : c.args.at + 1 ≡ suc c.args.at = omega arith in rw (c.low.ensures, c.high.ensures, e)
