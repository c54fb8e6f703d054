-- Where the cursor stands after a call: behind the field, which lies at the least multiple of its alignment. Assumes nothing.
use mathlib.Core.Path.{◌≡◌, refl}
use mathlib.Core.Bool.{Bool, true, false, cond, ◌&&◌}
use mathlib.Core.List.{List}
use Prim.Native.Nat.{ℕ, ◌+◌}
use lib.Dec.{leb}
use lib.ListN.{length}
use Rattle.limits.specs.Limits.{max_name}
use Rattle.limits.specs.declared.refusal.Refusal.TheVariants.{BadShape, CursorFull, BadCall}
use Rattle.catalogue.specs.Catalogue.{width_of}
use Rattle.field.specs.Field.{end_of}
use Rattle.field.specs.declared.FieldDef.{FieldDef}
use Rattle.cursor_rules.specs.Cursor.{Building, done, refuse, align_up, push, pad_to, gaps, fits, size_ok, laid, lay, place}
use Rattle.calls_rules.specs.Calls.{scalar_of, string_of}
use Rattle.std.specs.Prelude.{Result, Ok, Err}
use Rattle.limits.specs.declared.refusal.Refusal.{Refusal}
use Rattle.cursor_rules.specs.declared.FieldCursor.{FieldCursor}

-- a call that is not refused leaves the cursor there
abbrev pub EndsAt : ℕ → Result FieldCursor Refusal → Type 0
EndsAt end (Ok c) = c.cursor ≡ end
EndsAt end (Err refusal) = Unit {0}

module _ (cat name : List ℕ) (b : Building) where
  placed : (takes : Bool) (align : ℕ) (f : FieldDef) → EndsAt (align_up b.state.cursor align + f.size) (place cat takes align f name b).answer
  unfolding place lay laid push
  placed takes align f = go (leb (length name) max_name) (takes && size_ok cat f) (fits (gaps b.state g.offset + 1) (end_of g) b) where
    g : FieldDef
    g = laid cat b.state align f

    go : (p q r : Bool)
        → EndsAt (align_up b.state.cursor align + f.size)
        (cond p (cond q (cond r (done (push g name (pad_to cat g.offset b))) (refuse CursorFull b)) (refuse BadCall b)) (refuse BadShape b)).answer
    go false q r = tt
    go true false r = tt
    go true true false = tt
    go true true true = refl

  -- a scalar is aligned to its type's width, array or not
  pub scalar-ends : (field_id type_id size flags def_index : ℕ)
      → EndsAt (align_up b.state.cursor (width_of cat type_id) + size) (scalar_of cat field_id type_id size flags def_index name b).answer
  scalar-ends field_id type_id size flags def_index = placed _ _ _

  -- a string to nothing
  pub string-ends : (field_id type_id size flags : ℕ) → EndsAt (align_up b.state.cursor 1 + size) (string_of cat field_id type_id size flags name b).answer
  string-ends field_id type_id size flags = placed _ _ _
