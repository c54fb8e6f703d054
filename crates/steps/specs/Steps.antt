-- The steps of a plan: in target order, neighbours joined.
use Rattle.std.specs.Prelude.{ℕ, List, [], ◌∷◌, Some, None}
use Rattle.std.specs.declared.option.Option.{Option}
use Rattle.field.specs.declared.FieldDef.{FieldDef}
use Rattle.field.specs.Order.{sort_by}
use Rattle.step.specs.declared.Step.{Step}
use Rattle.coalesce.specs.Joins.{join_all}
use Rattle.plan_rules.specs.Rule.{Want, step_of}

-- one for each field that is carried
abbrev pub before : Option Step → List Step → List Step
before None ss = ss
before (Some s) ss = s ∷ ss

unfoldable pub steps_of : List ℕ → List FieldDef → List Want → List Step
steps_of cat haves [] = []
steps_of cat haves (w ∷ ws) = before (step_of cat haves w) (steps_of cat haves ws)

abbrev pub offset_of_want : Want → ℕ
offset_of_want w = w.def.offset

abbrev pub in_target_order : List Want → List Want
in_target_order ws = sort_by offset_of_want ws

unfoldable pub planned_steps : List ℕ → List FieldDef → List Want → ℕ → ℕ → List Step
planned_steps cat haves ws src_base base = join_all src_base base (steps_of cat haves (in_target_order ws))
