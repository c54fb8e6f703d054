-- Where the first field of an id stands, and an index of that by the low bytes of the ids.
use Rattle.std.specs.Prelude.{ℕ, ◌%◌, ◌<◌, ◌≡◌, Bool, None, List, eqb, slice_index_or}
use Rattle.std.specs.declared.option.Option.{Option}
use Rattle.std.specs.List.{position_from}
use Rattle.field.specs.declared.FieldDef.{FieldDef}

abbrev pub has_id : ℕ → FieldDef → Bool
has_id id f = eqb f.field_id id

-- the place of the first field of an id, if there is one
abbrev pub place_of : ℕ → List FieldDef → Option ℕ
place_of id fs = position_from (has_id id) 0 fs

abbrev pub has_low : ℕ → FieldDef → Bool
has_low low f = eqb (f.field_id % 256) low

-- for each low byte the place of the first field whose id has it
abbrev pub IndexOf : List FieldDef → List (Option ℕ) → Type 0
IndexOf fs firsts = (low : ℕ) → low < 256 → slice_index_or firsts low None ≡ position_from (has_low low) 0 fs
