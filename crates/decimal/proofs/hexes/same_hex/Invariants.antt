-- What is left to compare decides.
use Prim.Native.Nat.{◌*◌, ◌+◌, ◌-◌}
use Rattle.decimal.specs.Hex.{hex}
use Rattle.lent.specs.Bytes.{window}
use Rattle.lent.specs.Scan.{alike}
use lib.Dec.{eqb}
use mathlib.Core.Path.{◌≡◌}
use Rattle.decimal.proofs.hexes.same_hex.Given as goal

abbrev pub invariant-loop-i : goal.invariant-loop-i
invariant-loop-i l = (alike eqb (hex (window l.s (l.from + l.i) (l.n - l.i))) (window l.text (l.at + 2 * l.i) (2 * l.n - 2 * l.i)) ≡ alike eqb (hex (window l.s l.from l.n)) (window l.text l.at (2 * l.n)))
