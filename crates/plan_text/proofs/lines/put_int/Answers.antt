use Rattle.decimal.proofs.Numbers.{cell-length}
use Rattle.decimal.proofs.Puts.{put_then}
use Rattle.plan_text.proofs.Laid.{int-length}
use Rattle.plan_text.specs.Text.{step_line, tab}
use native.Mathlib.Omega.{arith}
use Rattle.plan_text.proofs.lines.put_int.Goals as goal

pub put_all-start-requires : goal.put_all-start-requires
put_all-start-requires c = let e = int-length c.args.source c.args.target c.args.from c.args.to c.args.signed c.args.marked in omega arith

pub put_cell-a-requires : goal.put_cell-a-requires
put_cell-a-requires c = let e = int-length c.args.source c.args.target c.args.from c.args.to c.args.signed c.args.marked in let a = c.put_all-start.ensures.behind in let l = cell-length c.args.source tab in omega arith

pub put_cell-b-requires : goal.put_cell-b-requires
put_cell-b-requires c = let e = int-length c.args.source c.args.target c.args.from c.args.to c.args.signed c.args.marked in let a = c.put_all-start.ensures.behind in let b = c.put_cell-a.ensures.behind in let l = cell-length c.args.source tab in let k = cell-length c.args.target tab in omega arith

pub put_cell-c-requires : goal.put_cell-c-requires
put_cell-c-requires c = let e = int-length c.args.source c.args.target c.args.from c.args.to c.args.signed c.args.marked in let a = c.put_all-start.ensures.behind in let b = c.put_cell-a.ensures.behind in let d = c.put_cell-b.ensures.behind in let l = cell-length c.args.source tab in let k = cell-length c.args.target tab in let m = cell-length c.args.from tab in omega arith

pub put_cell-d-requires : goal.put_cell-d-requires
put_cell-d-requires c = let e = int-length c.args.source c.args.target c.args.from c.args.to c.args.signed c.args.marked in let a = c.put_all-start.ensures.behind in let b = c.put_cell-a.ensures.behind in let d = c.put_cell-b.ensures.behind in let f = c.put_cell-c.ensures.behind in let l = cell-length c.args.source tab in let k = cell-length c.args.target tab in let m = cell-length c.args.from tab in let o = cell-length c.args.to tab in omega arith

pub put_signs-requires : goal.put_signs-requires
put_signs-requires c = let e = int-length c.args.source c.args.target c.args.from c.args.to c.args.signed c.args.marked in let a = c.put_all-start.ensures.behind in let b = c.put_cell-a.ensures.behind in let d = c.put_cell-b.ensures.behind in let f = c.put_cell-c.ensures.behind in let g = c.put_cell-d.ensures.behind in let l = cell-length c.args.source tab in let k = cell-length c.args.target tab in let m = cell-length c.args.from tab in let o = cell-length c.args.to tab in omega arith

pub returns : goal.returns
unfolding step_line
returns c = put_then c.put_all-start.ensures (put_then c.put_cell-a.ensures (put_then c.put_cell-b.ensures (put_then c.put_cell-c.ensures (put_then c.put_cell-d.ensures c.put_signs.ensures))))
