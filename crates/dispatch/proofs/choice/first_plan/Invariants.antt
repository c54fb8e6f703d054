-- What is left of the slots gives what all of them do.
use Prim.Native.Nat.{◌*◌, ◌-◌, ◌/◌}
use Rattle.dispatch.specs.Dispatch.{first_plan, is_of}
use Rattle.lent.specs.Scan.{first, places}
use Rattle.slot.specs.Slot.{slot_size}
use Rattle.std.specs.Prelude.{Some, None}
use lib.ListN.{length}
use mathlib.Core.Path.{◌≡◌}
use Rattle.dispatch.proofs.choice.first_plan.Given as goal

abbrev pub invariant-loop-k : goal.invariant-loop-k
invariant-loop-k l = first (is_of l.plans l.rtype) Some None (places slot_size (slot_size * l.k) (length l.plans / slot_size - l.k)) ≡ first_plan l.plans l.rtype
