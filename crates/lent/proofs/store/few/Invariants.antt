-- What is left to store gives what the whole does.
use Prim.Native.Nat.{◌+◌, ◌-◌}
use Rattle.lent.specs.Bytes.{window}
use lib.ListN.{length}
use lib.Seq.{sets}
use mathlib.Core.Path.{◌≡◌}
use Rattle.lent.proofs.store.few.Given as goal

abbrev pub invariant-loop-i : goal.invariant-loop-i
invariant-loop-i l = (length l.d ≡ length l.initial.d) × (sets l.d (l.to + l.i) (window l.s (l.from + l.i) (l.n - l.i)) ≡ sets l.initial.d l.to (window l.s l.from l.n))
