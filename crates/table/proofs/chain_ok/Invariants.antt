-- The places left decide, from where the last field ended.
use Rattle.std.proofs.Common.{◌≡◌, ◌<◌, map, drop}
use Rattle.field.specs.Field.{field_at}
use Rattle.table_rules.specs.Parts.{chain}
use Rattle.table.proofs.chain_ok.Given as goal

abbrev pub invariant-loop-place : goal.invariant-loop-place
invariant-loop-place l = (l.low < 131072) × (chain l.low (map (field_at l.t) (drop l.place-index l.order)) ≡ chain 0 (map (field_at l.t) l.order))
