use Prim.Native.Nat.{◌*◌, ◌+◌}
use Rattle.compare.proofs.Skipping.{one_more, skips-none}
use mathlib.Core.Path.{◌∙◌, ◌≡◌, refl, sym}
use native.Mathlib.Omega.{arith}
use Rattle.compare.proofs.skipped.Goals as goal

pub loop-k-init : goal.loop-k-init
loop-k-init c = skips-none _ _

pub overflow_add-k : goal.overflow_add-k
overflow_add-k c = omega (arith, c.loop-k.invariant.within)

pub is_id-requires : goal.is_id-requires
is_id-requires c = omega (arith, c.loop-k.invariant.within)

pub returns-then-is_id : goal.returns-then-is_id
returns-then-is_id c = c.loop-k.invariant

pub is_id-requires-in-loop-k : goal.is_id-requires-in-loop-k
is_id-requires-in-loop-k c = omega (arith, c.loop-k.invariant.within)

pub returns-then-is_id-2 : goal.returns-then-is_id-2
returns-then-is_id-2 c = one_more c.args.t.now c.args.id c.loop-k.k (16 * c.loop-k.k) c.loop-k.invariant (omega arith) refl (sym c.is_id.ensures ∙ c.if-is_id.false)

pub is_id-requires-in-loop-k-2 : goal.is_id-requires-in-loop-k-2
is_id-requires-in-loop-k-2 c = omega (arith, c.loop-k.invariant.within)

pub returns-then-is_id-3 : goal.returns-then-is_id-3
returns-then-is_id-3 c = let w = one_more c.args.t.now c.args.id c.loop-k.k (16 * c.loop-k.k) c.loop-k.invariant (omega arith) refl (sym c.is_id.ensures ∙ c.if-is_id.false) in
    let x = one_more c.args.t.now c.args.id (c.loop-k.k + 1) (16 * c.loop-k.k + 16) w (omega arith) (omega arith) (sym c.is_id-in-loop-k.ensures ∙ c.if-is_id-2.false) in
    let e : c.loop-k.k + 2 ≡ c.loop-k.k + 1 + 1 = omega arith in
    rw e x

pub is_id-requires-in-loop-k-3 : goal.is_id-requires-in-loop-k-3
is_id-requires-in-loop-k-3 c = omega (arith, c.loop-k.invariant.within)

pub returns-then-is_id-4 : goal.returns-then-is_id-4
returns-then-is_id-4 c = let w = one_more c.args.t.now c.args.id c.loop-k.k (16 * c.loop-k.k) c.loop-k.invariant (omega arith) refl (sym c.is_id.ensures ∙ c.if-is_id.false) in
    let x = one_more c.args.t.now c.args.id (c.loop-k.k + 1) (16 * c.loop-k.k + 16) w (omega arith) (omega arith) (sym c.is_id-in-loop-k.ensures ∙ c.if-is_id-2.false) in
    let y = one_more c.args.t.now c.args.id (c.loop-k.k + 1 + 1) (16 * c.loop-k.k + 32) x (omega arith) (omega arith) (sym c.is_id-in-loop-k-2.ensures ∙ c.if-is_id-3.false) in
    let e : c.loop-k.k + 3 ≡ c.loop-k.k + 1 + 1 + 1 = omega arith in
    rw e y

pub loop-k-preserved : goal.loop-k-preserved
loop-k-preserved c = let w = one_more c.args.t.now c.args.id c.loop-k.k (16 * c.loop-k.k) c.loop-k.invariant (omega arith) refl (sym c.is_id.ensures ∙ c.if-is_id.false) in
    let x = one_more c.args.t.now c.args.id (c.loop-k.k + 1) (16 * c.loop-k.k + 16) w (omega arith) (omega arith) (sym c.is_id-in-loop-k.ensures ∙ c.if-is_id-2.false) in
    let y = one_more c.args.t.now c.args.id (c.loop-k.k + 1 + 1) (16 * c.loop-k.k + 32) x (omega arith) (omega arith) (sym c.is_id-in-loop-k-2.ensures ∙ c.if-is_id-3.false) in
    let z = one_more c.args.t.now c.args.id (c.loop-k.k + 1 + 1 + 1) (16 * c.loop-k.k + 48) y (omega arith) (omega arith) (sym c.is_id-in-loop-k-3.ensures ∙ c.if-is_id-4.false) in
    let e : c.loop-k.k + 4 ≡ c.loop-k.k + 1 + 1 + 1 + 1 = omega arith in
    rw e z

pub returns : goal.returns
returns c = c.loop-k.invariant
