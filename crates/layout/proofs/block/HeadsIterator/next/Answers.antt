use Rattle.std.proofs.Common.{rules, ap, length, sym, ◌∙◌, arith, ℕ}
use Rattle.lent.proofs.Scan.{turn, none}
use Rattle.layout.proofs.block.HeadsIterator.next.Goals as goal

pub returns-then-self-eq0-clause-steps : goal.returns-then-self-eq0-clause-steps
returns-then-self-eq0-clause-steps c =
    let s = c.self.inside in
    let e = sym c.self.view_is ∙ none (λ (h : ℕ). h) s.step s.next s.left (omega arith) in (e, e)

pub returns-clause-steps : goal.returns-clause-steps
returns-clause-steps c =
    let s = c.self.inside in sym c.self.view_is ∙ turn (λ (h : ℕ). h) s.step s.next s.left (omega arith)

pub returns-clause-goes : goal.returns-clause-goes
returns-clause-goes c =
    let s = c.self.inside in
    let shorter = ap length (sym c.self.view_is ∙ turn (λ (h : ℕ). h) s.step s.next s.left (omega arith)) in search rules
