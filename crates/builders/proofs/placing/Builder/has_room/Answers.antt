-- The count may be any number, so the sum is tested by a difference.
use Prim.Native.Nat.{◌+◌}
use Rattle.cursor_rules.specs.Cursor.{room}
use Rattle.builders.specs.Builder.{building_of}
use Rattle.lent.proofs.Bytes.{fits-by-difference}
use borrow.Author.Tests.{lt-leb}
use mathlib.Core.Path.{◌≡◌}
use native.Mathlib.Omega.{arith}
use Rattle.builders.proofs.placing.Builder.has_room.Goals as goal

pub returns-then-room-c : goal.returns-then-room-c
returns-then-room-c c = rw (lt-leb (c.args.n + c.args.self.now.state.count) (room (building_of c.args.self.now)) (omega arith))

pub returns : goal.returns
returns c = let e : c.min-room.result ≡ room (building_of c.args.self.now) = omega arith in
    rw (fits-by-difference c.args.n c.args.self.now.state.count c.min-room.result (omega arith), e)
