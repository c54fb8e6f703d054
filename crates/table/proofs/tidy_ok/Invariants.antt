-- The fields left decide, from where the last one ended.
use Rattle.std.proofs.Common.{◌≡◌}
use Rattle.field.specs.Field.{fields_of}
use Rattle.table_rules.specs.Parts.{tidy}
use Rattle.table.proofs.tidy_ok.Given as goal

abbrev pub invariant-loop-f : goal.invariant-loop-f
invariant-loop-f l = tidy l.cat l.most l.low (fields_of l.f-iterator.rest.now) ≡ tidy l.cat l.most 0 (fields_of l.fn.t)
