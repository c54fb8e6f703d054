-- The scale goes by way of its bits and back.
use mathlib.Core.Path.{◌∙◌}
use mir.Syntax.{w8}
use mir.Val.{SFits}
use mir.ValLaws.{to_z-of_z}
use native.Mathlib.Omega.{arith}
use Rattle.calls.proofs.like.Goals as goal

pub returns-clause-made : goal.returns-clause-made
returns-clause-made c = let small : SFits w8 c.args.def.scale = record { sfits = omega arith } in
    c.place.ensures.made ∙ rw (c.class_of-takes.ensures, c.width.ensures.0, to_z-of_z w8 c.args.def.scale small)
