-- Sizes, counts, and then what is left of the two orders decides.
use Prim.Native.Nat.{◌≤◌}
use Rattle.equal_rules.specs.Equal.{eq_except_def_index, struct_eq}
use Rattle.field.specs.Field.{field_at}
use Rattle.layout.specs.Layout.{struct_at}
use Rattle.lent.specs.Scan.{alike}
use Rattle.limits.specs.Limits.{max_struct_fields}
use lib.ListN.{drop, length, take}
use mathlib.Core.List.{map}
use mathlib.Core.Path.{◌≡◌}
use Rattle.equal.proofs.struct_eq.Given as goal

abbrev pub invariant-loop-k : goal.invariant-loop-k
invariant-loop-k l = (l.k ≤ l.n) × (l.n ≤ length l.a) × (l.n ≤ length l.b) × (l.n ≤ max_struct_fields)
    × (alike eq_except_def_index (map (field_at l.haves) (drop l.k (take l.n l.a))) (map (field_at l.wants) (drop l.k (take l.n l.b)))
    ≡ struct_eq (struct_at l.s l.fn.h) (struct_at l.c l.fn.g))
