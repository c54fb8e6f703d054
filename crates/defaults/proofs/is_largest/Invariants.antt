-- The bytes left decide.
use Rattle.std.proofs.Common.{◌≡◌, ◌+◌, ◌-◌, nat_eq}
use Rattle.defaults.specs.Defaults.{is_largest, largest_byte}
use Rattle.lent.specs.Bytes.{byte_at}
use Rattle.lent.specs.Scan.{every, places}
use Rattle.defaults.proofs.is_largest.Given as goal

abbrev pub invariant-loop-i : goal.invariant-loop-i
invariant-loop-i l = every (λ k. nat_eq (byte_at l.body (l.from + k)) (largest_byte l.signed l.n k)) (places 1 l.i (l.n - l.i)) ≡ is_largest l.body l.from l.n l.signed
