use mathlib.Core.Bool.{cond}
use mathlib.Core.List.{List}
use mathlib.Core.Path.{◌≡◌}
use Prim.Native.Nat.{ℕ, ◌+◌, ◌-◌, ◌<◌, ◌≤◌}
use native.Mathlib.Omega.{arith}
use lib.ListN.{get_or, take, drop, length, length-take, length-drop}
use lib.Seq.{get_or-take, get_or-drop}
use Rattle.catalogue.specs.Catalogue.{within}
use Rattle.lent.proofs.Scan.{counts, counted, small}
use Rattle.lent.specs.Bytes.{byte_at}
use Rattle.catalogue.proofs.count_half.Goals as goal

long : (s : List ℕ) (from : ℕ) → from + 128 ≤ length s → length (take (from + 128 - from) (drop from s)) ≡ 128
long s from h = omega (arith, length-take (from + 128 - from) (drop from s), length-drop from s)

there : (s : List ℕ) (from i : ℕ) → i < 128 → get_or (take (from + 128 - from) (drop from s)) i 0 ≡ byte_at s (from + i)
there s from i h =
    let m : from + 128 - from ≡ 128 = omega arith in
    rw (m, get_or-take 128 (drop from s) i 0 h) (get_or-drop from s i 0)

-- what is found at the id at hand
found : (c : goal.After-one-n) → (c.loop-kind.kind-index < 128) × (c.one-n.result ≡ cond (within c.args.low c.args.high (byte_at c.args.cat.now (c.args.from + c.loop-kind.kind-index))) 1 0)
found c = let h : c.loop-kind.kind-index < 128 = omega (arith, long c.args.cat.now c.args.from c.requires) in
    (h, rw (there c.args.cat.now c.args.from c.loop-kind.kind-index h) at c.one-n.ensures)

pub loop-kind-init : goal.loop-kind-init
loop-kind-init c = let e : c.args.from + 0 ≡ c.args.from = omega arith in (omega arith, rw e (omega arith))

pub overflow_add-n : goal.overflow_add-n
overflow_add-n c = omega (arith, small c.one-n.result _ (found c).1, (found c).0)

pub loop-kind-preserved : goal.loop-kind-preserved
loop-kind-preserved c = let a = c.args in
    let l = c.loop-kind in
    let e : a.from + (l.kind-index + 1) ≡ (a.from + l.kind-index) + 1 = omega arith in
    let f : 128 - (l.kind-index + 1) ≡ 128 - l.kind-index - 1 = omega arith in
    let h = (found c).0 in (
      omega (arith, small c.one-n.result _ (found c).1),
      rw (e, f) (counts (byte_at a.cat.now) 1 (a.from + l.kind-index) (128 - l.kind-index) (within a.low a.high) l.n _ l.invariant.1 (omega arith) c.one-n.result (found c).1),
    )

pub returns : goal.returns
returns c = let l = c.loop-kind in
    counted (byte_at c.args.cat.now) 1 (c.args.from + l.kind-index) (128 - l.kind-index) (within c.args.low c.args.high) l.n _ l.invariant.1 (omega (arith, long c.args.cat.now c.args.from c.requires))
