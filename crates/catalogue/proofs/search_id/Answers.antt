use Rattle.catalogue.proofs.First.{first-here, first-last, first-later}
use mathlib.Core.Path.{◌≡◌, ◌∙◌, sym}
use Prim.Native.Nat.{◌+◌, ◌-◌}
use native.Mathlib.Omega.{arith}
use Rattle.catalogue.proofs.search_id.Goals as goal

pub returns-then-class_of-class : goal.returns-then-class_of-class
returns-then-class_of-class c = first-here _ _ _ _ _ c.loop-id.invariant (omega arith) (sym c.class_of.ensures ∙ c.if-class_of-class.true)

pub loop-id-preserved : goal.loop-id-preserved
loop-id-preserved c = let e : 255 - (c.loop-id.id + 1) ≡ 255 - c.loop-id.id - 1 = omega arith in
    rw e (first-later _ _ _ _ _ c.loop-id.invariant (omega arith) (λ e. c.if-class_of-class.false (c.class_of.ensures ∙ e)))

pub returns : goal.returns
returns c = let e : 255 ≡ c.loop-id.id = omega arith in e ∙ first-last _ _ _ _ _ c.loop-id.invariant (omega arith)
