use mathlib.Core.Path.{◌≡◌, sym, ◌∙◌}
use Prim.Native.Nat.{ℕ, ◌+◌, ◌-◌, ◌*◌}
use native.Mathlib.Omega.{arith}
use Rattle.lent.proofs.Scan.{stops, goes, ends}
use Rattle.layout.specs.Shape.{name_ok}
use Rattle.layout.proofs.shape.names_ok.Goals as goal

pub returns-then-not-name_ok : goal.returns-then-not-name_ok
returns-then-not-name_ok c =
    let a = c.args in
    stops (λ (at : ℕ). at) 33 (a.from + 33 * c.loop-k.k) (a.n - c.loop-k.k) (name_ok a.l.now) _ c.loop-k.invariant (omega arith) (sym c.name_ok.ensures ∙ c.if-not-name_ok.true)

pub loop-k-preserved : goal.loop-k-preserved
loop-k-preserved c =
    let a = c.args in
    let k : ℕ = c.loop-k.k in
    let at : a.from + 33 * (k + 1) ≡ (a.from + 33 * k) + 33 = omega arith in
    let left : a.n - (k + 1) ≡ (a.n - k) - 1 = omega arith in
    rw (at, left) (goes (λ (at : ℕ). at) 33 (a.from + 33 * k) (a.n - k) (name_ok a.l.now) _ c.loop-k.invariant (omega arith) (sym c.name_ok.ensures ∙ c.if-not-name_ok.false))

pub returns : goal.returns
returns c =
    let a = c.args in
    ends (λ (at : ℕ). at) 33 (a.from + 33 * c.loop-k.k) (a.n - c.loop-k.k) (name_ok a.l.now) _ c.loop-k.invariant (omega arith)
