-- Two numbers of four bytes are one of eight.
use Prim.Native.Nat.{◌+◌}
use Rattle.layout.specs.Layout.{record_at}
use Rattle.lent.proofs.Bytes.{number-add}
use native.Mathlib.Omega.{arith}
use Rattle.layout.proofs.block.record_hash.Goals as goal

pub returns : goal.returns
unfolding record_at
returns c = rw (← c.at-low.ensures.0) (omega (arith, number-add c.args.l.now (c.at-low.result + 8) 4 4))
