-- What the test of room gives. Assumes nothing.
use mathlib.Core.Path.{◌≡◌, refl, ap}
use mathlib.Core.Bool.{Bool, true, false, cond, ◌&&◌}
use mathlib.Core.List.{List, []}
use Prim.Native.Nat.{ℕ, ◌+◌, ◌-◌, ◌≤◌}
use native.Mathlib.Omega.{arith}
use borrow.Author.Tests.{leb-true}
use lib.Dec.{leb, ltb}
use lib.ListN.{length}
use lib.Seq.{length-sets}
use Rattle.lent.proofs.Scan.{both}
use Rattle.limits.specs.Limits.{max_bytes}
use Rattle.limits.specs.declared.refusal.Refusal.TheVariants.{CursorFull}
use Rattle.cursor_rules.specs.Cursor.{Building, building, outcome, done, refuse, padding_field, push, pad_to, gaps, fits, move_to}
use Rattle.cursor_rules.specs.declared.FieldCursor.{FieldCursor}
use Rattle.std.specs.Prelude.{Ok}

pub room-there : (n count most end : ℕ) → (leb (n + count) most && leb end max_bytes) ≡ true → (n + count ≤ most) × (end ≤ max_bytes)
room-there n count most end e =
    let z = both (leb (n + count) most) (leb end max_bytes) e in
    (leb-true (n + count) most z.0, leb-true end max_bytes z.1)

-- ---- a gap filled: as many fields more as it takes, and no byte more

module _ (cat : List ℕ) (to : ℕ) (b : Building) where
  pub padded : ((pad_to cat to b).state.count ≡ gaps b.state to + b.state.count)
      × (length (pad_to cat to b).table ≡ length b.table) × (length (pad_to cat to b).names ≡ length b.names)
  unfolding pad_to push
  padded = go (ltb b.state.cursor to) where
    go : (p : Bool) → let d = cond p (push (padding_field cat b.state.cursor (to - b.state.cursor)) [] b) b in
        (d.state.count ≡ cond p 1 0 + b.state.count) × (length d.table ≡ length b.table) × (length d.names ≡ length b.names)
    go true = (omega arith, simp length-sets, simp length-sets)
    go false = (omega arith, refl, refl)

  -- the cursor moves where that is not behind it and there is room
  pub moved : (r : FieldCursor) (t n : List ℕ) → (leb b.state.cursor to && fits (gaps b.state to) to b) ≡ true → building r t n ≡ pad_to cat to b
      → outcome (Ok r) t n ≡ move_to cat to b
  unfolding move_to
  moved r t n e h = rw e (ap done h)

  pub unmoved : (leb b.state.cursor to && fits (gaps b.state to) to b) ≡ false → refuse CursorFull b ≡ move_to cat to b
  unfolding move_to
  unmoved e = rw e
