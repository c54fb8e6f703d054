use Rattle.decimal.proofs.Numbers.{cell-length}
use Rattle.decimal.proofs.Puts.{put_as, put_then}
use Rattle.lent.specs.Bytes.{number_at}
use Rattle.plan_text.proofs.Laid.{head-laid, head-length}
use Rattle.plan_text.specs.Text.{newline}
use mathlib.Core.Path.{sym}
use native.Mathlib.Omega.{arith}
use Rattle.plan_text.proofs.lines.put_head.Goals as goal

pub put_all-start-requires : goal.put_all-start-requires
put_all-start-requires c = let e = head-length c.args.slot.now in omega arith

pub put_tabbed-behind-requires : goal.put_tabbed-behind-requires
put_tabbed-behind-requires c = let e = head-length c.args.slot.now in let a = c.put_all-start.ensures.behind in (omega arith, omega arith)

pub put_cell-requires : goal.put_cell-requires
put_cell-requires c = let e = head-length c.args.slot.now in let a = c.put_all-start.ensures.behind in let b = c.put_tabbed-behind.ensures.behind in let l = cell-length (number_at c.args.slot.now 12 2) newline in rw c.u16_in.ensures (omega arith)

pub returns : goal.returns
returns c = put_as (put_then (put_then c.put_all-start.ensures c.put_tabbed-behind.ensures) (rw c.u16_in.ensures at c.put_cell.ensures)) (sym (head-laid c.args.slot.now))
