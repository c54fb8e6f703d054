-- What is left to store gives what the whole does.
use Prim.Native.Nat.{◌*◌, ◌+◌}
use Rattle.slot.specs.Slot.{packed_steps, steps_from}
use lib.ListN.{drop, length, take}
use lib.Seq.{sets}
use mathlib.Core.Path.{◌≡◌}
use Rattle.slot.proofs.pack.put_steps.Given as goal

abbrev pub invariant-loop-k : goal.invariant-loop-k
invariant-loop-k l = (length l.slot ≡ length l.initial.slot)
    × (sets l.slot (steps_from + 16 * l.k) (packed_steps (drop l.k (take l.steps.count l.steps.steps))) ≡ sets l.initial.slot steps_from (packed_steps (take l.steps.count l.steps.steps)))
