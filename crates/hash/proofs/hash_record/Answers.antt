-- The walk's answer is the fingerprint of its bytes (Prints.antt).
use Rattle.field.specs.Field.{fields_of}
use Rattle.hash_rules.proofs.Prints.{prints}
use mathlib.Core.Path.{◌∙◌}
use Rattle.hash.proofs.hash_record.Goals as goal

pub returns : goal.returns
returns c = c.hash_table.ensures ∙ prints c.args.cat.now c.args.l.now c.args.budget (fields_of c.args.table.now)
