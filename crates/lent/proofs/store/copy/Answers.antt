use Prim.Native.Nat.{ℕ, ◌+◌, ◌-◌, ◌*◌}
use Rattle.lent.proofs.Stored.{copied, copied-last}
use Rattle.lent.specs.Bytes.{window}
use lib.Seq.{sets}
use mathlib.Core.Path.{◌∙◌, ◌≡◌, refl}
use native.Mathlib.Nat.{add-zero, sub-zero}
use native.Mathlib.Omega.{arith}
use Rattle.lent.proofs.store.copy.Goals as goal

pub returns-then-n-lt8 : goal.returns-then-n-lt8
returns-then-n-lt8 c = c.few.ensures

pub loop-k-init : goal.loop-k-init
loop-k-init c = (omega arith, refl, refl)

pub loop-k-preserved : goal.loop-k-preserved
loop-k-preserved c =
    let a = c.args in
    let l = c.loop-k in
    let i : ℕ = 8 * l.k in
    let next : 8 * (l.k + 1) ≡ i + 8 = omega arith in
    rw next (
      omega arith,
      c.word-in-loop-k.auto.d ∙ l.invariant.1,
      rw c.word-in-loop-k.ensures (copied a.s.now l.d a.from a.to a.n i 8 (omega arith) (omega arith)) ∙ l.invariant.2,
    )

pub returns : goal.returns
returns c = let a = c.args in
    let l = c.loop-k in
    let i : ℕ = 8 * l.k in
    let first = rw (add-zero a.from, add-zero a.to, sub-zero a.n) at (copied a.s.now a.d.now a.from a.to a.n 0 8 (omega arith) (omega arith)) in
    let left : sets l.d (a.to + i) (window a.s.now (a.from + i) (a.n - i)) ≡ sets a.d.now a.to (window a.s.now a.from a.n) =
    l.invariant.2 ∙ rw c.word.ensures first in
    c.word-2.ensures ∙ copied-last a.s.now l.d a.d.now a.from a.to a.n i 8 (omega arith) (omega arith) (omega arith) (omega arith) left
