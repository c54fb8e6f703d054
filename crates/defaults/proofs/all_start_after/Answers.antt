use Rattle.std.proofs.Common.{rules, tests}
use Rattle.lent.proofs.Chains.{every-from_all}
use Rattle.field.proofs.Behind.{YieldsList-from_rows}
use Rattle.defaults.specs.Defaults.{starts_after}
use Rattle.defaults.proofs.all_start_after.Goals as goal

pub returns : goal.returns
returns c = every-from_all (starts_after c.args.cat.now c.args.header) c.all.new.self c.all.ensures.ran (YieldsList-from_rows c.rows_of.result c.rows_of.ensures) (λ f b q k. search (rules, tests))
