use native.Mathlib.Omega.{arith}
use Rattle.plan_match.proofs.body_stands.Goals as goal

pub same_hex-hex-requires : goal.same_hex-hex-requires
same_hex-hex-requires c = (omega arith, omega arith)

pub returns : goal.returns
returns c = rw (c.stands-word.ensures, c.same_hex-hex.ensures)
