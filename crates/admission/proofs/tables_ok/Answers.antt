use Rattle.std.proofs.Common.{rules, tests}
use Rattle.lent.proofs.Chains.{every-from_all}
use Rattle.layout.proofs.Nearby.{YieldsList-from_heads}
use Rattle.admission_rules.specs.Parts.{head_passes}
use Rattle.admission.proofs.tables_ok.Goals as goal

pub returns : goal.returns
returns c =
    let a = c.args in
    every-from_all (head_passes a.test a.holder a.cat.now a.l.now) c.all.new.self c.all.ensures.ran (YieldsList-from_heads c.heads_of.ensures.heads) (λ h b q k. search (rules, tests))
