use Prim.Native.Nat.{◌+◌, ◌-◌}
use Rattle.defaults.proofs.Gaps.{field-passes, gap-stops, zeros-pass}
use Rattle.defaults.specs.Defaults.{covered}
use Rattle.field.specs.Field.{fields_of}
use Rattle.lent.proofs.Scan.{ends}
use Rattle.lent.specs.Bytes.{byte_at}
use lib.Dec.{eqb}
use lib.ListN.{length}
use mathlib.Core.Bool.{◌||◌}
use mathlib.Core.Path.{◌∙◌, sym}
use native.Mathlib.Nat.{add-zero, sub-zero}
use native.Mathlib.Omega.{arith}
use Rattle.defaults.proofs.gaps_zero.Goals as goal

pub loop-i-init : goal.loop-i-init
loop-i-init c = simp (add-zero, sub-zero)

pub loop-i-preserved-then-eight_in-eq0 : goal.loop-i-preserved-then-eight_in-eq0
loop-i-preserved-then-eight_in-eq0 c = zeros-pass c.args.cat.now (fields_of c.args.table.now) c.args.header c.args.body.now c.loop-i.i _ c.loop-i.invariant 8 (sym c.eight_in.ensures.0 ∙ c.if-eight_in-eq0.true)

pub loop-i-preserved-then-body-i-eq0 : goal.loop-i-preserved-then-body-i-eq0
loop-i-preserved-then-body-i-eq0 c = zeros-pass c.args.cat.now (fields_of c.args.table.now) c.args.header c.args.body.now c.loop-i.i _ c.loop-i.invariant 1 (omega (arith, c.if-body-i-eq0.true))

pub returns-then-end-header : goal.returns-then-end-header
returns-then-end-header c = gap-stops c.args.cat.now (fields_of c.args.table.now) c.args.header c.args.body.now c.loop-i.i _ c.loop-i.invariant (omega arith) c.if-body-i-eq0.false (omega (arith, c.cover_end-end.ensures.0, c.if-end-header.true))

pub loop-i-preserved : goal.loop-i-preserved
loop-i-preserved c = field-passes c.args.cat.now (fields_of c.args.table.now) c.args.header c.args.body.now c.loop-i.i _ c.loop-i.invariant c.cover_end-end.result c.cover_end-end.ensures.0 (omega arith)

pub returns : goal.returns
returns c = ends (λ place. place) 1 (c.args.header + c.loop-i.i) (length c.args.body.now - c.loop-i.i) (λ j. covered c.args.cat.now (fields_of c.args.table.now) j || eqb (byte_at c.args.body.now (j - c.args.header)) 0) _ c.loop-i.invariant (omega arith)
