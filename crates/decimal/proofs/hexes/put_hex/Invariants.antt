-- What is left to store gives what the whole does.
use Prim.Native.Nat.{◌*◌, ◌+◌, ◌-◌}
use Rattle.decimal.specs.Hex.{hex}
use Rattle.lent.specs.Bytes.{window}
use lib.ListN.{length}
use lib.Seq.{sets}
use mathlib.Core.Path.{◌≡◌}
use Rattle.decimal.proofs.hexes.put_hex.Given as goal

abbrev pub invariant-loop-i : goal.invariant-loop-i
invariant-loop-i l = (length l.out ≡ length l.initial.out) × (sets l.out (l.at + 2 * l.i) (hex (window l.s (l.from + l.i) (l.n - l.i))) ≡ sets l.initial.out l.at (hex (window l.s l.from l.n)))
