use Rattle.std.proofs.Common.{rules, tests}
use Rattle.lent.proofs.Chains.{every-from_all}
use Rattle.field.proofs.Behind.{YieldsList-from_rows}
use Rattle.table_rules.specs.Parts.{field_ok}
use Rattle.table.proofs.fields_ok.Goals as goal

pub returns : goal.returns
returns c = let a = c.args in every-from_all (field_ok a.rule a.cat.now a.most) c.all.new.self c.all.ensures.ran (YieldsList-from_rows c.rows_of.result c.rows_of.ensures) (λ f b q k. search (rules, tests))
