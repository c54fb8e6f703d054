-- Two halves, each counted in a byte.
use Rattle.catalogue.specs.Catalogue.{within}
use Rattle.lent.proofs.Scan.{tally-add}
use Rattle.lent.specs.Bytes.{byte_at}
use native.Mathlib.Omega.{arith}
use Rattle.catalogue.proofs.count.Goals as goal

pub returns : goal.returns
returns c = omega (
  arith,
  c.count_half.ensures,
  c.count_half-2.ensures,
  tally-add (within c.args.low c.args.high) (byte_at c.args.cat.now) 0 128 128,
)
