use Rattle.std.proofs.Common.{rules, tests}
use Rattle.lent.proofs.Chains.{every-from_all}
use Rattle.field.proofs.Behind.{YieldsList-from_rows}
use Rattle.table_rules.specs.Table.{clear_of}
use Rattle.table.proofs.clear_of.Goals as goal

pub returns : goal.returns
returns c = every-from_all (clear_of c.args.f) c.all.new.self c.all.ensures.ran (YieldsList-from_rows c.rows_of.result c.rows_of.ensures) (λ f b q k. search (rules, tests))
