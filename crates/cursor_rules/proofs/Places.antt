-- A field is placed: the cases of the tests. Assumes nothing.
use mathlib.Core.Path.{◌≡◌, refl, ap, ◌∙◌}
use mathlib.Core.Bool.{Bool, true, false, ◌&&◌}
use mathlib.Core.List.{List}
use Prim.Native.Nat.{ℕ, ◌+◌, ◌*◌, ◌≤◌, ◌<◌}
use native.Mathlib.Omega.{arith}
use borrow.Author.Tests.{le-leb, lt-leb}
use lib.ListN.{length}
use Rattle.limits.specs.Limits.{max_bytes, max_fields, max_name}
use Rattle.limits.specs.declared.refusal.Refusal.TheVariants.{BadShape, CursorFull, BadCall}
use Rattle.field.specs.Field.{end_of}
use Rattle.field.specs.declared.FieldDef.{FieldDef}
use Rattle.cursor_rules.specs.Cursor.{Building, building, outcome, done, refuse, align_up, push, pad_to, gaps, room, fits, size_ok, laid, lay, place}
use Rattle.cursor_rules.proofs.Align.{up_from}
use Rattle.cursor_rules.proofs.Rooms.{padded}
use Rattle.cursor_rules.specs.declared.FieldCursor.{FieldCursor}
use Rattle.std.specs.Prelude.{Ok}

pub both_false : (a : Bool) → (a && false) ≡ false
both_false true = refl
both_false false = refl

module _ (cat : List ℕ) (b : Building) where
  -- behind the padding there is room for the field
  pub then-push : (to : ℕ) (p : FieldCursor) (t n : List ℕ) → building p t n ≡ pad_to cat to b → (gaps b.state to + 1) + b.state.count ≤ room b
      → (p.count < max_fields) × (16 * p.count + 16 ≤ length t) × (33 * p.count + 33 ≤ length n)
  then-push to p t n e h =
      let ec : p.count ≡ gaps b.state to + b.state.count = ap (λ (d : Building). d.state.count) e ∙ (padded cat to b).0 in
      let et : length t ≡ length b.table = ap (λ (d : Building). length d.table) e ∙ (padded cat to b).1 in
      let en : length n ≡ length b.names = ap (λ (d : Building). length d.names) e ∙ (padded cat to b).2 in
      (omega arith, omega arith, omega arith)

  module _ (f : FieldDef) (name : List ℕ) where
    pub lays : (p r : FieldCursor) (t n t' n' : List ℕ) → building p t n ≡ pad_to cat f.offset b → building r t' n' ≡ push f name (building p t n)
        → fits (gaps b.state f.offset + 1) (end_of f) b ≡ true → outcome (Ok r) t' n' ≡ lay cat f name b
    unfolding lay
    lays p r t n t' n' ep er e = rw e (ap done (er ∙ ap (push f name) ep))

    pub lays-not : fits (gaps b.state f.offset + 1) (end_of f) b ≡ false → refuse CursorFull b ≡ lay cat f name b
    unfolding lay
    lays-not e = rw e

    -- a cursor past the limit
    module _ (align : ℕ) where
      pub past : max_bytes < b.state.cursor → refuse CursorFull b ≡ lay cat (laid cat b.state align f) name b
      unfolding lay laid
      past h =
          let z : max_bytes < align_up b.state.cursor align + f.size = omega (arith, up_from b.state.cursor align) in
          rw (lt-leb (align_up b.state.cursor align + f.size) max_bytes z, both_false)

      module _ (takes : Bool) where
        pub places-it : length name ≤ max_name → (takes && size_ok cat f) ≡ true → lay cat (laid cat b.state align f) name b ≡ place cat takes align f name b
        unfolding place
        places-it h e = rw (le-leb (length name) max_name h, e)

        pub bad-call : length name ≤ max_name → (takes && size_ok cat f) ≡ false → refuse BadCall b ≡ place cat takes align f name b
        unfolding place
        bad-call h e = rw (le-leb (length name) max_name h, e)

        pub bad-shape : max_name < length name → refuse BadShape b ≡ place cat takes align f name b
        unfolding place
        bad-shape h = rw (lt-leb (length name) max_name h)
