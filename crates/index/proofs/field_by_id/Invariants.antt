-- The last so far and the records left give the last.
use mathlib.Core.List.{map}
use mathlib.Core.Path.{◌≡◌}
use Rattle.std.proofs.Common.{Some}
use Rattle.lent.specs.Scan.{last}
use Rattle.layout.specs.Layout.{record_at}
use Rattle.index_rules.specs.Index.{by_id, fields_of_rtype, has_id}
use Rattle.index.proofs.field_by_id.Given as goal

abbrev pub invariant-loop-h : goal.invariant-loop-h
invariant-loop-h l = last (has_id l.cat l.id) Some l.found (fields_of_rtype l.rtype (map (record_at l.l) l.h-iterator)) ≡ by_id l.cat l.l l.rtype l.id
