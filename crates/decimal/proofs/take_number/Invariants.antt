-- What is left, after v, gives what the whole does.
use Rattle.decimal.specs.Decimal.{number, past}
use lib.ListN.{drop}
use mathlib.Core.Path.{◌≡◌}
use Rattle.decimal.proofs.take_number.Given as goal

abbrev pub invariant-loop-i : goal.invariant-loop-i
invariant-loop-i l = (number l.value (drop l.i l.text) ≡ number 0 (drop l.at l.text)) × (past (drop l.i l.text) ≡ past (drop l.at l.text))
