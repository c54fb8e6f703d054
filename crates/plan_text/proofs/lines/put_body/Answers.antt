use Rattle.decimal.proofs.Nibbles.{hex-length}
use Rattle.decimal.proofs.Puts.{put_then}
use Rattle.lent.proofs.Bytes.{window-length}
use Rattle.lent.specs.Bytes.{window}
use Rattle.plan_text.proofs.Laid.{body-length}
use Rattle.plan_text.specs.Text.{body_line}
use Rattle.slot.specs.Slot.{body_from}
use native.Mathlib.Omega.{arith}
use Rattle.plan_text.proofs.lines.put_body.Goals as goal

pub put_all-start-requires : goal.put_all-start-requires
put_all-start-requires c = let e = body-length (window c.args.slot.now body_from c.args.n) in omega arith

pub put_hex-behind-requires : goal.put_hex-behind-requires
put_hex-behind-requires c = let e = body-length (window c.args.slot.now body_from c.args.n) in let l = window-length c.args.slot.now body_from c.args.n (omega arith) in let a = c.put_all-start.ensures.behind in (omega arith, omega arith)

pub put_byte-requires : goal.put_byte-requires
put_byte-requires c = let e = body-length (window c.args.slot.now body_from c.args.n) in let a = c.put_all-start.ensures.behind in let b = c.put_hex-behind.ensures.behind in let h = hex-length (window c.args.slot.now body_from c.args.n) in omega arith

pub returns : goal.returns
unfolding body_line
returns c = put_then c.put_all-start.ensures (put_then c.put_hex-behind.ensures c.put_byte.ensures)
