-- The steps left, joined onto those done, give what the whole does.
use Rattle.std.proofs.Common.{◌≡◌, ◌≤◌, length, take, map}
use Rattle.limits.specs.Limits.{max_steps}
use Rattle.coalesce.specs.Joins.{join_all}
use Rattle.coalesce.proofs.Onto.{join_onto}
use Rattle.field.specs.Field.{fields_of}
use Rattle.plan_rules.specs.Rule.{want_at}
use Rattle.steps.specs.Steps.{steps_of}
use Rattle.steps.proofs.Planning.{rest}
use Rattle.steps.proofs.in_order.Given as goal

abbrev pub invariant-loop-place : goal.invariant-loop-place
invariant-loop-place l = (l.count ≤ l.place-index) × (length l.steps ≡ max_steps)
    × (join_onto l.bases.source l.bases.target (take l.count l.steps) (rest l.cat (fields_of l.source.table.now) (want_at l.cat l.marks l.dst) l.order l.place-index)
    ≡ join_all l.bases.source l.bases.target (steps_of l.cat (fields_of l.source.table.now) (map (want_at l.cat l.marks l.dst) l.order)))
