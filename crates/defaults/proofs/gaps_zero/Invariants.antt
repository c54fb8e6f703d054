-- The bytes left decide.
use Prim.Native.Nat.{◌+◌, ◌-◌}
use Rattle.defaults.specs.Defaults.{covered, gaps_zero}
use Rattle.field.specs.Field.{fields_of}
use Rattle.lent.specs.Bytes.{byte_at}
use Rattle.lent.specs.Scan.{every, places}
use lib.Dec.{eqb}
use lib.ListN.{length}
use mathlib.Core.Bool.{◌||◌}
use mathlib.Core.Path.{◌≡◌}
use Rattle.defaults.proofs.gaps_zero.Given as goal

abbrev pub invariant-loop-i : goal.invariant-loop-i
invariant-loop-i l = every (λ j. covered l.cat (fields_of l.table) j || eqb (byte_at l.body (j - l.header)) 0) (places 1 (l.header + l.i) (length l.body - l.i)) ≡ gaps_zero l.cat (fields_of l.table) l.header l.body

abbrev pub decreases-loop-i : goal.decreases-loop-i
decreases-loop-i l = length l.body - l.i
