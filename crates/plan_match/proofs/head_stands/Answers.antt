use Rattle.plan_match.proofs.Parted.{head-most, not-stood, put-in-line, stood-there}
use Rattle.plan_text.specs.Held.{head_in}
use lib.ListN.{length}
use mathlib.Core.Path.{◌≡◌}
use native.Mathlib.Omega.{arith}
use Rattle.plan_match.proofs.head_stands.Goals as goal

pub put_head-n-requires : goal.put_head-n-requires
put_head-n-requires c = let m = head-most c.args.slot.now in (c.requires, omega arith)

pub stands-requires : goal.stands-requires
stands-requires c = let m = head-most c.args.slot.now in let b = c.put_head-n.ensures.behind in omega arith

pub returns-then-not-stands : goal.returns-then-not-stands
returns-then-not-stands c = let m = head-most c.args.slot.now in
    let w : c.put_head-n.result ≡ length (head_in c.args.slot.now) = let b = c.put_head-n.ensures.behind in omega arith in
    not-stood (head_in c.args.slot.now) c.args.text.now 0 _ (rw (put-in-line 64 c.put_head-n.ensures (omega arith), w) at c.stands.ensures) c.if-not-stands.true

pub returns : goal.returns
returns c = let m = head-most c.args.slot.now in
    let w : c.put_head-n.result ≡ length (head_in c.args.slot.now) = let b = c.put_head-n.ensures.behind in omega arith in
    stood-there (head_in c.args.slot.now) c.args.text.now 0 _ (rw (put-in-line 64 c.put_head-n.ensures (omega arith), w) at c.stands.ensures) c.put_head-n.result w c.if-not-stands.false
