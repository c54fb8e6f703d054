-- The names and the fields left decide.
use mathlib.Core.Path.{◌≡◌}
use Rattle.std.proofs.Common.{Some, None}
use Rattle.lent.specs.Scan.{first}
use Rattle.field.specs.Field.{fields_of}
use Rattle.layout.specs.Layout.{record_at}
use Rattle.index_rules.specs.Index.{has_name, name_in, named}
use Rattle.index.proofs.name_in.Given as goal

abbrev pub invariant-loop-f : goal.invariant-loop-f
invariant-loop-f l = first (has_name l.cat l.wanted) (λ f. Some f.def) None (named l.names (fields_of l.f-iterator.rest.now)) ≡ name_in l.cat l.wanted (record_at l.l l.fn.h)
