-- What is left to take gives what the whole does.
use Prim.Native.Nat.{◌*◌, ◌-◌, ◌≤◌}
use Rattle.decimal.specs.Decimal.{pasts}
use Rattle.plan_take.specs.Lenient.{numbers_as}
use lib.ListN.{drop, length}
use lib.Seq.{sets}
use mathlib.Core.Path.{◌≡◌}
use Rattle.plan_take.proofs.take_numbers.Given as goal

abbrev pub invariant-loop-k : goal.invariant-loop-k
invariant-loop-k l = (length l.out ≡ length l.initial.out) × (l.next ≤ length l.text)
    × (sets l.out (2 * l.k) (numbers_as (l.n - l.k) (drop l.next l.text)) ≡ sets l.initial.out 0 (numbers_as l.n (drop l.at l.text)))
    × (pasts (l.n - l.k) (drop l.next l.text) ≡ pasts l.n (drop l.at l.text))
