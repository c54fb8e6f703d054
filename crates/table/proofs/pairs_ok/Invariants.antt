-- Each field with those after it; the fields left decide.
use Rattle.std.proofs.Common.{◌≡◌}
use Rattle.field.specs.Field.{fields_of}
use Rattle.table_rules.specs.Table.{apart}
use Rattle.table.proofs.pairs_ok.Given as goal

abbrev pub invariant-loop-f : goal.invariant-loop-f
invariant-loop-f l = apart (fields_of l.rows.rest.now) ≡ apart (fields_of l.t)
