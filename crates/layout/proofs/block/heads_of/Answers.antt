use Prim.Native.Nat.{◌≤◌, ◌*◌}
use native.Mathlib.Omega.{arith}
use native.Mathlib.Nat.{mul-le-mul}
use Rattle.layout.proofs.Nearby.{places-near}
use Rattle.layout.proofs.block.heads_of.Goals as goal

pub returns-clause-near : goal.returns-clause-near
returns-clause-near c =
    let few : c.count_of.result ≤ 65535 = omega arith in
    let all : c.head_size.result * c.count_of.result ≤ 72 * 65535 = mul-le-mul c.head_size.ensures.1 few in
    places-near c.head_size.result c.heads_from.result c.count_of.result (omega arith)
