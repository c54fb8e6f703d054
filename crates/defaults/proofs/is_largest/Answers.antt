use Rattle.std.proofs.Common.{ℕ, ◌+◌, ◌-◌, ◌≡◌, add-one, eq-eqb, ne_eqb, nat_eq, arith}
use Rattle.lent.proofs.Scan.{ends, goes, stops}
use Rattle.lent.specs.Bytes.{byte_at}
use Rattle.defaults.specs.Defaults.{largest_byte}
use Rattle.defaults.proofs.is_largest.Goals as goal

pub returns-then-byte_at-largest_byte : goal.returns-then-byte_at-largest_byte
returns-then-byte_at-largest_byte c = let a = c.args in let l = c.loop-i in
    stops (λ (p : ℕ). p) 1 l.i (a.n - l.i) (λ k. nat_eq (byte_at a.body.now (a.from + k)) (largest_byte a.signed a.n k)) _ l.invariant (omega arith)
    (rw (← add-one l.i, ← c.byte_at.ensures, ← c.largest_byte.ensures) (ne_eqb _ _ c.if-byte_at-largest_byte.true))

pub loop-i-preserved : goal.loop-i-preserved
loop-i-preserved c = let a = c.args in let l = c.loop-i in
    let left : a.n - (l.i + 1) ≡ (a.n - l.i) - 1 = omega arith in
    rw left (goes (λ (p : ℕ). p) 1 l.i (a.n - l.i) (λ k. nat_eq (byte_at a.body.now (a.from + k)) (largest_byte a.signed a.n k)) _ l.invariant (omega arith)
    (rw (← add-one l.i, ← c.byte_at.ensures, ← c.largest_byte.ensures) (eq-eqb _ _ c.if-byte_at-largest_byte.false)))

pub returns : goal.returns
returns c = let a = c.args in let l = c.loop-i in
    ends (λ (p : ℕ). p) 1 l.i (a.n - l.i) (λ k. nat_eq (byte_at a.body.now (a.from + k)) (largest_byte a.signed a.n k)) _ l.invariant (omega arith)
