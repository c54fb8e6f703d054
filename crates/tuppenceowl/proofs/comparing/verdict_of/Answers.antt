-- The refusal of admission; else the last record of the rtype, if there is one.
use Rattle.admission_rules.proofs.When.{admitted, front, raised, rest}
use Rattle.layout.proofs.Shapes.{shaped-few}
use Rattle.layout.specs.Shape.{shape_ok}
use Rattle.tuppenceowl.specs.Comparing.{judged_rtype}
use mathlib.Core.List.{[], ◌∷◌}
use mathlib.Core.Path.{◌∙◌, sym}
use Rattle.tuppenceowl.proofs.comparing.verdict_of.Goals as goal

pub verdict-requires : goal.verdict-requires
verdict-requires c = let s = c.args.stream.now in
    let t = c.args.compiled.now in
    let fine = admitted c.args.cat.now (s ∷ t ∷ []) (sym c.admit_both.ensures ∙ c.in_ok-admit_both.was) in (
      shaped-few s (front shape_ok s (t ∷ []) fine.shaped),
      shaped-few t (front shape_ok t [] (rest shape_ok s (t ∷ []) fine.shaped)),
    )

pub returns-in_err-admit_both : goal.returns-in_err-admit_both
unfolding judged_rtype
returns-in_err-admit_both c = rw (sym c.admit_both.ensures ∙ c.in_err-admit_both.was) (raised _ _ c.from_residual.ensures.1)

pub returns-in-None : goal.returns-in-None
unfolding judged_rtype
returns-in-None c = rw (sym c.admit_both.ensures ∙ c.in_ok-admit_both.was, sym c.last_of.ensures.place ∙ c.in-None.is)

pub returns-in-Some : goal.returns-in-Some
unfolding judged_rtype
returns-in-Some c = rw (sym c.admit_both.ensures ∙ c.in_ok-admit_both.was, sym c.last_of.ensures.place ∙ c.in-Some.is, ← c.verdict.ensures)
