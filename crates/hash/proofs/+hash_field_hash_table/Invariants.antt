-- A field enters a struct's table with the same levels left, a table its fields with one less: twice the levels, and one for a field, fall.
-- Of a table, the fields that are left decide.
use Prim.Native.Nat.{◌+◌, ◌-◌, ◌*◌}
use Rattle.crc64.specs.Sum.{bytes_step}
use Rattle.field.specs.Field.{field_at, fields_of}
use Rattle.hash_rules.specs.Parts.{told}
use Rattle.hash_rules.specs.Walk.{walk_fields, walk_table}
use lib.ListN.{drop}
use mathlib.Core.List.{map}
use mathlib.Core.Path.{◌≡◌}
use Rattle.hash.proofs.+hash_field_hash_table.Given as goal

abbrev pub decreases-hash_field : goal.decreases-hash_field
decreases-hash_field l = 2 * l.levels + 1

abbrev pub decreases-hash_table : goal.decreases-hash_table
decreases-hash_table l = 2 * l.levels

abbrev pub invariant-hash_table-loop-place : goal.invariant-hash_table-loop-place
invariant-hash_table-loop-place l =
    told (walk_fields bytes_step l.walk.cat.now l.walk.layout.now l.walk.budget (walk_table bytes_step l.walk.cat.now l.walk.layout.now l.walk.budget (l.levels - 1)) (map (field_at l.table) (drop l.place-index l.place-items)) l.walked.fp l.walked.visits)
    ≡ told (walk_table bytes_step l.walk.cat.now l.walk.layout.now l.walk.budget l.levels (fields_of l.table) l.fn.start.fp l.fn.start.visits)
