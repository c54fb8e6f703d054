-- The bytes of the number that the eight bytes hold are these bytes.
use Rattle.lent.proofs.Stored.{bytes-there}
use lib.Seq.{sets}
use mathlib.Core.Path.{ap}
use native.Mathlib.Omega.{arith}
use Rattle.lent.proofs.store.word.Goals as goal

pub returns : goal.returns
returns c = rw (c.store_eight.ensures, c.eight_in-v.ensures.0) (ap (λ r. sets c.args.d.now c.args.to r) (bytes-there c.args.s.now 8 c.args.from (λ i. omega (arith, c.shared_slice_known-1.given i)) c.requires.0))
