-- The fields left decide.
use Rattle.std.proofs.Common.{◌≡◌, ◌*◌, ◌-◌, ◌/◌, length}
use Rattle.defaults.specs.Defaults.{mark_holds}
use Rattle.lent.specs.Scan.{every, gather}
use Rattle.plan_rules.specs.Rule.{want_at, wants}
use Rattle.defaults.proofs.marks_hold.Given as goal

abbrev pub invariant-loop-k : goal.invariant-loop-k
invariant-loop-k l = every (mark_holds l.cat l.header l.body) (gather (want_at l.cat l.marks l.table) 16 (16 * l.k) (length l.table / 16 - l.k)) ≡ every (mark_holds l.cat l.header l.body) (wants l.cat l.marks l.table)
