use Rattle.std.proofs.Common.{◌≤◌}
use Rattle.caseline.proofs.input.each_line.Given as goal

abbrev pub invariant-loop : goal.invariant-loop
invariant-loop g l = goal.F-IsAlwaysCallable g l.answer × (l.waiting ≤ 131072)
