-- What is left to store gives what the whole does.
use Prim.Native.Nat.{◌*◌, ◌+◌, ◌-◌}
use Rattle.decimal.specs.Hex.{unhex}
use lib.ListN.{drop, length}
use lib.Seq.{sets}
use mathlib.Core.Path.{◌≡◌}
use Rattle.decimal.proofs.hexes.take_hex.Given as goal

abbrev pub invariant-loop-i : goal.invariant-loop-i
invariant-loop-i l = (length l.out ≡ length l.initial.out) × (sets l.out (l.to + l.i) (unhex (l.n - l.i) (drop (2 * l.i) l.text)) ≡ sets l.initial.out l.to (unhex l.n l.text))
