use mathlib.Core.Path.{◌∙◌, sym}
use Rattle.planner.specs.Select.{chosen}
use Rattle.planner.proofs.select.choose.Goals as goal
use Rattle.planner.proofs.select.choose.Goals.{in-Some+in_default-of_schema_named, in_default}

pub returns-in-Some-of_schema_named : goal.returns-in-Some-of_schema_named
unfolding chosen
returns-in-Some-of_schema_named c = rw (c.in-Some.is, sym c.of_schema_named.ensures ∙ c.in-Some-of_schema_named.is)

pub returns : goal.returns
unfolding chosen
returns c =
    elim c.match-schema.branch [
      | in-Some+in_default-of_schema_named w ↦ rw (w.in-Some.is, sym w.of_schema_named.ensures ∙ w.in_default-of_schema_named.is, ← c.record_rtype.ensures) c.first_of.ensures.place
      | in_default w ↦ rw (w.in_default.is, ← c.record_rtype.ensures) c.first_of.ensures.place
    ]
