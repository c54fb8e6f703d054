-- The test is made without the sum of start and size, which could wrap.
use Prim.Native.Nat.{◌+◌}
use Rattle.lent.proofs.Bytes.{fits-by-difference}
use borrow.Author.Tests.{lt-leb}
use lib.ListN.{length}
use mathlib.Core.Path.{sym}
use native.Mathlib.Omega.{arith}
use Rattle.lent.proofs.has_window.Goals as goal

pub returns-then-s-n : goal.returns-then-s-n
returns-then-s-n c = sym (lt-leb (c.args.at + c.args.n) (length c.args.s.now) (omega arith))

pub returns : goal.returns
returns c = fits-by-difference c.args.at c.args.n (length c.args.s.now) c.if-s-n.false
