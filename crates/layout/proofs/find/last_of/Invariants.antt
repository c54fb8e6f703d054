-- The last so far and the heads left give the last.
use mathlib.Core.Path.{◌≡◌}
use Rattle.std.specs.Prelude.{Some}
use Rattle.lent.specs.Scan.{last}
use Rattle.layout.specs.Find.{is_of, last_of}
use Rattle.layout.proofs.find.last_of.Given as goal

abbrev pub invariant-loop-h : goal.invariant-loop-h
invariant-loop-h l = last (is_of l.l l.rtype) Some l.found l.h-iterator ≡ last_of l.l l.rtype
