-- Fields that follow each other in offset order lie apart (Chained.antt).
use Rattle.field.specs.Field.{fields_of}
use Rattle.field.specs.declared.FieldDef.{FieldDef}
use Rattle.table_rules.proofs.Chained.{chained}
use Rattle.table_rules.specs.Parts.{chain}
use mathlib.Core.List.{List}
use mathlib.Core.Path.{sym, ap, ◌∙◌}
use Rattle.table.proofs.apart_ok.Goals as goal

pub returns-then-chain_ok : goal.returns-then-chain_ok
returns-then-chain_ok c = chained (fields_of c.args.t.now)
    (ap (λ (l : List FieldDef). chain 0 l) (sym c.by_offset.ensures.0) ∙ sym c.chain_ok.ensures ∙ c.if-chain_ok.true)
