-- The heads left give the first; each lies near.
use mathlib.Core.Path.{◌≡◌}
use Rattle.std.specs.Prelude.{Some, None}
use Rattle.lent.specs.Scan.{first}
use Rattle.layout.specs.Find.{is_of, first_of}
use Rattle.layout.proofs.find.first_of.Given as goal

abbrev pub invariant-loop-h : goal.invariant-loop-h
invariant-loop-h l = first (is_of l.l l.rtype) Some None l.h-iterator ≡ first_of l.l l.rtype
