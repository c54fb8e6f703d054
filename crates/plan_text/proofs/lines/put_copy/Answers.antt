use Rattle.decimal.proofs.Numbers.{cell-length}
use Rattle.decimal.proofs.Puts.{put_then}
use Rattle.plan_text.proofs.Laid.{copy-length}
use Rattle.plan_text.specs.Text.{newline, step_line, tab}
use native.Mathlib.Omega.{arith}
use Rattle.plan_text.proofs.lines.put_copy.Goals as goal

pub put_all-start-requires : goal.put_all-start-requires
put_all-start-requires c = let e = copy-length c.args.source c.args.target c.args.size in omega arith

pub put_cell-a-requires : goal.put_cell-a-requires
put_cell-a-requires c = let e = copy-length c.args.source c.args.target c.args.size in let a = c.put_all-start.ensures.behind in let l = cell-length c.args.source tab in omega arith

pub put_cell-b-requires : goal.put_cell-b-requires
put_cell-b-requires c = let e = copy-length c.args.source c.args.target c.args.size in let a = c.put_all-start.ensures.behind in let b = c.put_cell-a.ensures.behind in let l = cell-length c.args.source tab in let k = cell-length c.args.target tab in omega arith

pub put_cell-requires : goal.put_cell-requires
put_cell-requires c = let e = copy-length c.args.source c.args.target c.args.size in let a = c.put_all-start.ensures.behind in let b = c.put_cell-a.ensures.behind in let d = c.put_cell-b.ensures.behind in let l = cell-length c.args.source tab in let k = cell-length c.args.target tab in let m = cell-length c.args.size newline in omega arith

pub returns : goal.returns
unfolding step_line
returns c = put_then c.put_all-start.ensures (put_then c.put_cell-a.ensures (put_then c.put_cell-b.ensures c.put_cell.ensures))
