-- Each call keeps a building sound, whatever it is given. Assumes nothing.
use mathlib.Core.Path.{◌≡◌, refl, sym, ap, ◌∙◌}
use mathlib.Core.Bool.{Bool, true, false, cond, not, ◌&&◌}
use mathlib.Core.List.{List, [], ◌∷◌, ◌++◌}
use Prim.Native.Nat.{ℕ, ◌+◌, ◌-◌, ◌*◌, ◌≤◌, ◌<◌}
use native.Mathlib.Omega.{arith}
use borrow.Author.Tests.{le-leb, leb-true, ltb-true, ltb-false}
use lib.Bits.{bit_and, bit_or}
use lib.Dec.{leb, ltb, eqb}
use lib.ListN.{length, replicate, length-replicate}
use lib.Seq.{sets, length-sets}
use Rattle.limits.specs.Limits.{max_bytes, max_name}
use Rattle.limits.specs.declared.refusal.Refusal.TheVariants.{BadShape, CursorFull, BadCall}
use Rattle.lent.specs.Bytes.{byte_at}
use Rattle.lent.specs.Scan.{gather, every}
use Rattle.lent.proofs.Scan.{both}
use Rattle.lent.proofs.Stored.{get-below, get_in}
use Rattle.catalogue.proofs.Valid.{integer-width}
use Rattle.catalogue.specs.Catalogue.{catalogue_ok, class_of, width_of, array_flag, extension_flag, padding}
use Rattle.field.specs.Field.{field_at, end_of}
use Rattle.field.specs.declared.FieldDef.{FieldDef}
use Rattle.table_rules.specs.Table.{width_ok}
use Rattle.field.specs.declared.Holder.{Holder}
use Rattle.cursor_rules.specs.Cursor.{Building, building, Outcome, done, refuse, fresh, row_of, slot_of, push, padding_field, pad_to, gaps, room, fits, move_to, align_up, size_ok, flags_after, laid, lay, place}
use Rattle.calls_rules.specs.Calls.{noted_in, noted_all, base_end, finish_base_of, ended_of}
use Rattle.cursor_rules.proofs.Align.{up_from}
use Rattle.cursor_rules.proofs.Stores.{slot-length}
use Rattle.cursor_rules.proofs.Rooms.{room-there, padded}
use Rattle.cursor_rules.specs.declared.FieldCursor.{FieldCursor}
use Rattle.sound.specs.Sound.{Sound, fields_in, lengths_in, short, tiles, plain, after, state_after}
use Rattle.sound.proofs.Rows.{same-fields, last_one, same-heads, row-offset, row-size, row_type, row-flags, row-reserved}
use Rattle.sound.proofs.Tiles.{tiles_more, every_more}
use Rattle.sound.proofs.Widths.{or-keeps, padding-class, size-there, width-kept}
use Rattle.std.specs.Prelude.{Result, Ok, Err}
use Rattle.limits.specs.declared.refusal.Refusal.{Refusal}

module _ (cat : List ℕ) (holder : Holder) where
  pub fresh-sound : (t n : List ℕ) → Sound cat holder (building (fresh holder) t n)
  unfolding tiles every gather
  fresh-sound t n = record { tiled = refl; fine = refl; within = omega arith; roomy = omega arith; limited = refl; based = omega arith; named = refl }

  -- ---- a field that begins at the cursor and has its width

  module _ (b : Building) (s : Sound cat holder b) (f : FieldDef) (name : List ℕ) (at : f.offset ≡ b.state.cursor) (sized : 0 < f.size)
      (ends : end_of f ≤ max_bytes) (free : b.state.count < room b) (short-name : length name ≤ max_name) (width : width_ok cat f ≡ true) where
    inside : 16 * b.state.count + 16 ≤ length b.table
    inside = omega arith

    t : List ℕ
    t = sets b.table (16 * b.state.count) (row_of f)

    g : FieldDef
    g = field_at t (16 * b.state.count)

    fields : gather (field_at t) 16 0 (b.state.count + 1) ≡ fields_in b ++ g ∷ []
    unfolding t g
    fields =
        let old : gather (field_at t) 16 0 b.state.count ≡ fields_in b =
        same-fields t b.table 0 b.state.count (λ j h. get-below (row_of f) b.table (16 * b.state.count) j (omega arith)) in
        let e : 0 + 16 * b.state.count ≡ 16 * b.state.count = omega arith in
        last_one (field_at t) 16 0 b.state.count ∙ rw (e, old)

    ns : List ℕ
    ns = sets b.names (33 * b.state.count) (slot_of name)

    -- the slot begins with the length
    head-is : byte_at ns (33 * b.state.count) ≡ length name
    unfolding ns slot_of
    head-is =
        let l : length (slot_of name) ≡ 33 = slot-length name in
        let e : 33 * b.state.count + 0 ≡ 33 * b.state.count = omega arith in
        let h : byte_at ns (33 * b.state.count + 0) ≡ byte_at (slot_of name) 0 = get_in (slot_of name) b.names (33 * b.state.count) 0 (omega arith) (omega arith) in
        (rw e at h) ∙ get_in (length name ∷ name) (replicate 33 0) 0 0 (omega arith) (simp length-replicate (omega arith))

    heads-short : every short (gather (byte_at ns) 33 0 (b.state.count + 1)) ≡ true
    unfolding ns
    heads-short =
        let old : gather (byte_at ns) 33 0 b.state.count ≡ lengths_in b =
        same-heads ns b.names 0 b.state.count (λ j h. get-below (slot_of name) b.names (33 * b.state.count) j (omega arith)) in
        let e : 0 + 33 * b.state.count ≡ 33 * b.state.count = omega arith in
        let p : short (byte_at ns (33 * b.state.count)) ≡ true = rw head-is (le-leb (length name) max_name short-name) in
        ap (every short) (last_one (byte_at ns) 33 0 b.state.count ∙ rw (e, old)) ∙ every_more short (lengths_in b) (byte_at ns (33 * b.state.count)) s.named p

    offset-is : g.offset ≡ f.offset
    unfolding t g
    offset-is = row-offset b.table (16 * b.state.count) f inside (omega arith)

    size_is : g.size ≡ f.size
    unfolding t g
    size_is = row-size b.table (16 * b.state.count) f inside (omega arith)

    plain-is : plain cat g ≡ true
    unfolding t g
    plain-is =
        rw (
          row-reserved b.table (16 * b.state.count) f inside,
          row_type b.table (16 * b.state.count) f inside,
          row-flags b.table (16 * b.state.count) f inside,
          row-size b.table (16 * b.state.count) f inside (omega arith),
        )
        width

    pub push-sound : Sound cat holder (push f name b)
    unfolding push t ns
    push-sound =
        let e : end_of f ≡ end_of g = omega (arith, offset-is, size_is) in
        let z : tiles 0 (end_of g) (fields_in b ++ g ∷ []) ≡ true = tiles_more 0 b.state.cursor (fields_in b) g s.tiled (offset-is ∙ at) (omega (arith, size_is)) in
        record {
          tiled = ap (λ (fs : List FieldDef). tiles 0 (end_of f) fs) fields ∙ ap (λ (k : ℕ). tiles 0 k (fields_in b ++ g ∷ [])) e ∙ z;
          fine = ap (every (plain cat)) fields ∙ every_more (plain cat) (fields_in b) g s.fine plain-is;
          within = ends;
          roomy = simp length-sets (omega arith);
          limited = s.limited;
          based = let k = s.based in omega arith;
          named = heads-short;
        }

  -- ---- a gap

  module _ (b : Building) (to : ℕ) where
    pad-most : (pad_to cat to b).state.most ≡ b.state.most
    unfolding pad_to push
    pad-most = go (ltb b.state.cursor to) where
      go : (p : Bool) → (cond p (push (padding_field cat b.state.cursor (to - b.state.cursor)) [] b) b).state.most ≡ b.state.most
      go true = refl
      go false = refl

    pad-room : room (pad_to cat to b) ≡ room b
    pad-room = rw (pad-most, (padded cat to b).1, (padded cat to b).2)

    pad-cursor : b.state.cursor ≤ to → (pad_to cat to b).state.cursor ≡ to
    unfolding pad_to push
    pad-cursor h = go (ltb b.state.cursor to) (ltb-false b.state.cursor to) where
      go : (p : Bool) → (p ≡ false → to ≤ b.state.cursor) → (cond p (push (padding_field cat b.state.cursor (to - b.state.cursor)) [] b) b).state.cursor ≡ to
      go true ge = omega arith
      go false ge = let k = ge refl in omega arith

  noted-low : (c : FieldCursor) → c.base ≤ c.cursor → cond c.based c.base c.cursor ≤ c.cursor
  noted-low c h = go c.based where
    go : (p : Bool) → cond p c.base c.cursor ≤ c.cursor
    go true = h
    go false = omega arith

  -- the base noted is nothing to the fields
  pub noted-sound : (b : Building) (o : Outcome) → Sound cat holder (after b o) → Sound cat holder (after b (noted_all o))
  noted-sound b o s = go o.answer s where
    go : (p : Result FieldCursor Refusal) → Sound cat holder (building (state_after b.state p) o.table o.names) → Sound cat holder (building (state_after b.state (noted_in p)) o.table o.names)
    go (Ok c) s = record { tiled = s.tiled; fine = s.fine; within = s.within; roomy = s.roomy; limited = s.limited; based = noted-low c s.based; named = s.named }
    go (Err refusal) s = s

  module _ (ok : catalogue_ok cat ≡ true) where
    pad-width : (from size : ℕ) → width_ok cat (padding_field cat from size) ≡ true
    pad-width from size = rw (padding-class cat ok)

    module _ (b : Building) (s : Sound cat holder b) where
      pub pad-sound : (to : ℕ) → to ≤ max_bytes → gaps b.state to + b.state.count ≤ room b → Sound cat holder (pad_to cat to b)
      unfolding pad_to
      pad-sound to h r = go (ltb b.state.cursor to) (ltb-true b.state.cursor to) r where
        go : (p : Bool) → (p ≡ true → b.state.cursor < to) → cond p 1 0 + b.state.count ≤ room b
            → Sound cat holder (cond p (push (padding_field cat b.state.cursor (to - b.state.cursor)) [] b) b)
        go true lt r =
            let k = lt refl in
            push-sound b s (padding_field cat b.state.cursor (to - b.state.cursor)) [] refl (omega arith) (omega arith) (omega arith) (omega arith)
            (pad-width b.state.cursor (to - b.state.cursor))
        go false lt r = s

      pub move-sound : (to : ℕ) → Sound cat holder (after b (move_to cat to b))
      unfolding move_to
      move-sound to = go (leb b.state.cursor to && fits (gaps b.state to) to b) found where
        found : (leb b.state.cursor to && fits (gaps b.state to) to b) ≡ true → (gaps b.state to + b.state.count ≤ room b) × (to ≤ max_bytes)
        found e = room-there (gaps b.state to) b.state.count (room b) to (both (leb b.state.cursor to) (fits (gaps b.state to) to b) e).1

        go : (p : Bool) → (p ≡ true → (gaps b.state to + b.state.count ≤ room b) × (to ≤ max_bytes))
            → Sound cat holder (after b (cond p (done (pad_to cat to b)) (refuse CursorFull b)))
        go true h = pad-sound to (h refl).1 (h refl).0
        go false h = s

      pub finish-base-sound : Sound cat holder (after b (finish_base_of cat b))
      finish-base-sound = noted-sound b (move_to cat (base_end b.state) b) (move-sound (base_end b.state))

      pub ended-sound : Sound cat holder (after b (ended_of cat b))
      ended-sound = noted-sound b (move_to cat (align_up b.state.cursor 8) b) (move-sound (align_up b.state.cursor 8))

      -- ---- a field

      module _ (f : FieldDef) (name : List ℕ) where
        pub lay-sound : length name ≤ max_name → b.state.cursor ≤ f.offset → 0 < f.size → width_ok cat f ≡ true → Sound cat holder (after b (lay cat f name b))
        unfolding lay
        lay-sound short-name low sized width =
            go (fits (gaps b.state f.offset + 1) (end_of f) b) (room-there (gaps b.state f.offset + 1) b.state.count (room b) (end_of f)) where
              go : (p : Bool) → (p ≡ true → (gaps b.state f.offset + 1 + b.state.count ≤ room b) × (end_of f ≤ max_bytes))
                  → Sound cat holder (after b (cond p (done (push f name (pad_to cat f.offset b))) (refuse CursorFull b)))
              go true h =
                  let r = (h refl).0 in
                  let e = (h refl).1 in
                  push-sound (pad_to cat f.offset b) (pad-sound f.offset (omega arith) (omega arith)) f name (sym (pad-cursor b f.offset low)) sized e
                  (omega (arith, (padded cat f.offset b).0, pad-room b f.offset)) short-name width
              go false h = s

      module _ (f : FieldDef) (small : f.type_id < 256) where
        flags-kept : (c : FieldCursor) → bit_and f.flags (array_flag cat) ≤ bit_and (flags_after cat c f) (array_flag cat)
        flags-kept c = go (c.based && not (eqb (class_of cat f.type_id) padding)) where
          go : (p : Bool) → bit_and f.flags (array_flag cat) ≤ bit_and (cond p (bit_or f.flags (extension_flag cat)) f.flags) (array_flag cat)
          go true = or-keeps f.flags (extension_flag cat) (array_flag cat)
          go false = omega arith

        -- where it comes to lie, whatever its flags
        laid-sound : (align : ℕ) (name : List ℕ) → length name ≤ max_name → size_ok cat f ≡ true → Sound cat holder (after b (lay cat (laid cat b.state align f) name b))
        unfolding laid
        laid-sound align name short-name e =
            lay-sound (laid cat b.state align f) name short-name (up_from b.state.cursor align) (size-there _ _ e)
            (width-kept (class_of cat f.type_id) (width_of cat f.type_id) (bit_and f.flags (array_flag cat)) (bit_and (flags_after cat b.state f) (array_flag cat)) f.size
            (flags-kept b.state) (integer-width cat ok f.type_id small) e)

        pub place-sound : (takes : Bool) (align : ℕ) (name : List ℕ) → Sound cat holder (after b (place cat takes align f name b))
        unfolding place
        place-sound takes align name =
            go (leb (length name) max_name) (leb-true (length name) max_name) (takes && size_ok cat f)
            (λ h e. laid-sound align name h (both takes (size_ok cat f) e).1) where
              go : (p : Bool) → (p ≡ true → length name ≤ max_name) → (q : Bool)
                  → (length name ≤ max_name → q ≡ true → Sound cat holder (after b (lay cat (laid cat b.state align f) name b)))
                  → Sound cat holder (after b (cond p (cond q (lay cat (laid cat b.state align f) name b) (refuse BadCall b)) (refuse BadShape b)))
              go true l true h = h (l refl) refl
              go true l false h = s
              go false l q h = s
