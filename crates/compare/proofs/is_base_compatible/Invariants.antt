-- The compiled fields left decide; each is met as soon as one of the stream's fields left equals it.
use Prim.Native.Nat.{◌*◌, ◌+◌, ◌≤◌}
use Rattle.compare.specs.Compare.{base_compatible, met}
use Rattle.equal_rules.specs.Equal.{field_eq}
use Rattle.field.specs.Field.{field_at, fields_of}
use Rattle.layout.specs.Layout.{record_at}
use Rattle.lent.specs.Scan.{every, gather, some}
use lib.ListN.{length}
use mathlib.Core.Path.{◌≡◌}
use Rattle.compare.proofs.is_base_compatible.Given as goal

abbrev pub invariant-loop-rest : goal.invariant-loop-rest
invariant-loop-rest l = (l.from + 16 * l.rest ≤ length l.haves)
    × (some (λ have. field_eq l.cat l.s have l.c (field_at l.wants l.here)) (gather (field_at l.haves) 16 l.from l.rest) ≡ some (λ have. field_eq l.cat l.s have l.c (field_at l.wants l.here)) (fields_of l.haves))

abbrev pub decreases-loop-rest : goal.decreases-loop-rest
decreases-loop-rest l = l.rest

abbrev pub invariant-next : goal.invariant-next
invariant-next l = (l.at + 16 * l.left ≤ length l.wants)
    × (every (met l.cat l.s (fields_of l.haves) l.c) (gather (field_at l.wants) 16 l.at l.left) ≡ base_compatible l.cat l.s (record_at l.s l.fn.h) l.c (record_at l.c l.fn.g))

abbrev pub decreases-next : goal.decreases-next
decreases-next l = l.left
