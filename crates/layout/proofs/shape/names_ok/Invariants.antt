-- The names left decide.
use Prim.Native.Nat.{◌+◌, ◌-◌, ◌*◌}
use mathlib.Core.Path.{◌≡◌}
use Rattle.lent.specs.Scan.{places, every}
use Rattle.layout.specs.Shape.{name_ok}
use Rattle.layout.proofs.shape.names_ok.Given as goal

abbrev pub invariant-loop-k : goal.invariant-loop-k
invariant-loop-k l = every (name_ok l.l) (places 33 (l.from + 33 * l.k) (l.n - l.k)) ≡ every (name_ok l.l) (places 33 l.from l.n)
