use Rattle.decimal.proofs.Nibbles.{unhex-take}
use native.Mathlib.Omega.{arith}
use Rattle.plan_take.proofs.take_rest.Goals as goal

pub take_hex-requires : goal.take_hex-requires
take_hex-requires c = (omega arith, omega arith)

pub take_steps-requires : goal.take_steps-requires
take_steps-requires c = (c.skip-steps.ensures.inside, omega arith)

pub returns : goal.returns
returns c = rw (c.take_steps.ensures, c.take_hex.ensures, c.skip-steps.ensures.rest, c.window-hex.ensures, unhex-take, c.skip-body.ensures.rest)
