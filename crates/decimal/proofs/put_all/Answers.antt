use Rattle.lent.proofs.Stored.{whole}
use lib.ListN.{length}
use mathlib.Core.Path.{refl}
use native.Mathlib.Omega.{arith}
use Rattle.decimal.proofs.put_all.Goals as goal

pub returns : goal.returns
returns c = record { stored = rw (← whole c.args.s.now (length c.args.s.now) (omega arith)) c.copy.ensures; behind = refl }
