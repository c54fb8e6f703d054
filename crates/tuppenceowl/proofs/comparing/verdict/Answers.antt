-- The refusal of admission; else the record, if there is one, of layouts of the right shape.
use Rattle.admission_rules.proofs.When.{admitted, front, raised, rest}
use Rattle.layout.proofs.Shapes.{shaped-few}
use Rattle.layout.specs.Shape.{shape_ok}
use Rattle.tuppenceowl.specs.Comparing.{judged_of}
use borrow.Author.Tests.{le-ltb, lt-ltb}
use mathlib.Core.List.{[], ◌∷◌}
use mathlib.Core.Path.{◌∙◌, sym}
use Rattle.tuppenceowl.proofs.comparing.verdict.Goals as goal

pub verdict-requires : goal.verdict-requires
verdict-requires c = let s = c.args.stream.now in
    let t = c.args.compiled.now in
    let fine = admitted c.args.cat.now (s ∷ t ∷ []) (sym c.admit_both.ensures ∙ c.in_ok-admit_both.was) in (
      shaped-few s (front shape_ok s (t ∷ []) fine.shaped),
      shaped-few t (front shape_ok t [] (rest shape_ok s (t ∷ []) fine.shaped)),
    )

pub returns-in_err-admit_both : goal.returns-in_err-admit_both
unfolding judged_of
returns-in_err-admit_both c = rw (sym c.admit_both.ensures ∙ c.in_err-admit_both.was) (raised _ _ c.from_residual.ensures.1)

pub returns-then-k-count_of : goal.returns-then-k-count_of
unfolding judged_of
returns-then-k-count_of c = rw (sym c.admit_both.ensures ∙ c.in_ok-admit_both.was, ← c.count_of.ensures.0, lt-ltb _ _ c.if-k-count_of.true, ← c.record_head.ensures.0, ← c.verdict.ensures)

pub returns : goal.returns
unfolding judged_of
returns c = rw (sym c.admit_both.ensures ∙ c.in_ok-admit_both.was, ← c.count_of.ensures.0, le-ltb _ _ c.if-k-count_of.false)
