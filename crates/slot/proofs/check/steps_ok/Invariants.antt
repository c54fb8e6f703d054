-- The steps left decide.
use Prim.Native.Nat.{◌*◌, ◌+◌, ◌-◌}
use Rattle.slot.specs.Slot.{count_in, header_in, keeps, size_in, steps_from}
use mathlib.Core.Path.{◌≡◌}
use Rattle.slot.proofs.check.steps_ok.Given as goal

abbrev pub invariant-loop-k : goal.invariant-loop-k
invariant-loop-k l = keeps l.slot (steps_from + 16 * l.k) (count_in l.slot - l.k) l.low l.size ≡ keeps l.slot steps_from (count_in l.slot) (header_in l.slot) (size_in l.slot)
