-- A cursor with the table and the names that are lent to it, as a building.
use Rattle.std.specs.Prelude.{◌≡◌, Result, Ok, Err}
use Rattle.limits.specs.declared.refusal.Refusal.{Refusal}
use Rattle.cursor_rules.specs.Cursor.{Building, building, Outcome, outcome}
use Rattle.cursor_rules.specs.declared.FieldCursor.{FieldCursor}
use Rattle.builders.specs.declared.placing.Builder.{Builder}

abbrev pub building_of : Builder → Building
building_of b = building b.state b.table.now b.names.now

-- the same two lent slices
abbrev pub SameLent : Builder → Builder → Type 0
SameLent old new = (new.table.ghost_name ≡ old.table.ghost_name) × (new.names.ghost_name ≡ old.names.ghost_name)

-- what a call answers, and what it leaves of the table and the names
abbrev pub outcome_of : Result FieldCursor Refusal → Builder → Outcome
outcome_of answer b = outcome answer b.table.now b.names.now

-- the state that a call leaves: the one that it answers, and after a refusal the one before
abbrev pub state_or : FieldCursor → Result FieldCursor Refusal → FieldCursor
state_or c (Ok d) = d
state_or c (Err refusal) = c
