-- The heads left give the first.
use mathlib.Core.Path.{◌≡◌}
use Rattle.std.specs.Prelude.{Some, None}
use Rattle.lent.specs.Scan.{first}
use Rattle.field.specs.declared.Holder.TheVariants.{Record}
use Rattle.layout.specs.Layout.{heads}
use Rattle.planner.specs.Select.{of_schema}
use Rattle.planner.proofs.select.first_of_schema.Given as goal

abbrev pub invariant-loop-h : goal.invariant-loop-h
invariant-loop-h l = first (of_schema l.l l.schema) Some None l.h-iterator ≡ first (of_schema l.l l.schema) Some None (heads Record l.l)
