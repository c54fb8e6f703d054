use lib.ListN.{length-set}
use native.Mathlib.Numerals.{add-one}
use native.Mathlib.Omega.{arith}
use Rattle.lent.proofs.words.store_two.Goals as goal

pub bounds-d-at-2 : goal.bounds-d-at-2
bounds-d-at-2 c = simp length-set (omega arith)

pub returns : goal.returns
returns c = rw (add-one)
