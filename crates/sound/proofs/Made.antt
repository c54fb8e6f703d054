-- Whatever calls were made, under a valid catalogue: what stands in the table is admitted and covers every byte once. Assumes nothing.
use mathlib.Core.Path.{◌≡◌}
use mathlib.Core.Bool.{Bool, true, false, cond}
use mathlib.Core.List.{List, [], ◌∷◌}
use Prim.Native.Nat.{ℕ, zero, suc, ◌+◌, ◌≤◌, ◌<◌}
use native.Mathlib.Omega.{arith}
use borrow.Author.Tests.{ltb-true}
use lib.Dec.{ltb, eqb}
use lib.IntN.{pos}
use Rattle.lent.specs.Scan.{every}
use Rattle.lent.proofs.Scan.{both}
use Rattle.catalogue.specs.Catalogue.{catalogue_ok, class_of, width_of, first_of, id_of, struct}
use Rattle.field.specs.Field.{fields_of}
use Rattle.layout.specs.Layout.{struct_at, count_of}
use Rattle.field.specs.declared.Holder.{Holder}
use Rattle.field.specs.declared.Holder.TheVariants.{Struct}
use Rattle.cursor_rules.specs.Cursor.{Building}
use Rattle.calls_rules.specs.Calls.{sketch, scale_of, takes_scalar, takes_string, takes_like, widest, struct_head, times_flag, nested_size}
use Rattle.sound.specs.Sound.{Sound, Filled, Limited, table_of, lengths_in, short, after}
use Rattle.sound.specs.Made.{Call, Scalar, Chars, Like, Nested, Goes, EndBase, answer_of, type_fits, made_from, made, finished}
use Rattle.sound.proofs.Calls.{fresh-sound, place-sound, move-sound, finish-base-sound}
use Rattle.sound.proofs.Finished.{sound-filled, finish-filled, finish-limited, finish-named}

-- an id that is found is a byte
found-low : (c : List ℕ) (class id n : ℕ) → first_of c class id n ≤ id + n
unfolding first_of
found-low c class id zero = omega arith
found-low c class id (suc n) = go (eqb (class_of c id) class) (found-low c class (id + 1) n) where
  go : (p : Bool) → first_of c class (id + 1) n ≤ id + 1 + n → cond p id (first_of c class (id + 1) n) ≤ id + suc n
  go true h = omega arith
  go false h = omega arith

module _ (cat : List ℕ) (ok : catalogue_ok cat ≡ true) (holder : Holder) where
  call-sound : (c : Call) (b : Building) → type_fits c ≡ true → Sound cat holder b → Sound cat holder (after b (answer_of cat c b))
  call-sound (Scalar field type size flags index name) b e s =
      place-sound cat holder ok b s (sketch field type size flags index (scale_of cat type)) (ltb-true type 256 e) (takes_scalar cat type) (width_of cat type) name
  call-sound (Chars field type size flags name) b e s =
      place-sound cat holder ok b s (sketch field type size flags 0 (pos 0)) (ltb-true type 256 e) (takes_string cat type) 1 name
  call-sound (Like f index name) b e s =
      place-sound cat holder ok b s (sketch f.field_id f.type_id f.size f.flags index f.scale) (ltb-true f.type_id 256 e)
      (takes_like cat f.type_id) (width_of cat f.type_id) name
  call-sound (Nested l field k times name) b e s =
      let low : id_of cat struct < 256 = omega (arith, found-low cat struct 0 255) in
      place-sound cat holder ok b s (sketch field (id_of cat struct) (nested_size l k times) (times_flag cat times) k (pos 0)) low
      (ltb k (count_of Struct l)) (widest cat (fields_of (struct_at l (struct_head l k)).table)) name
  call-sound (Goes offset) b e s = move-sound cat holder ok b s offset
  call-sound EndBase b e s = finish-base-sound cat holder ok b s

  from-sound : (cs : List Call) (b : Building) → every type_fits cs ≡ true → Sound cat holder b → Sound cat holder (made_from cat cs b)
  unfolding made_from every
  from-sound [] b e s = s
  from-sound (c ∷ cs) b e s =
      let z = both (type_fits c) (every type_fits cs) e in
      from-sound cs (after b (answer_of cat c b)) z.1 (call-sound c b z.0 s)

  module _ (t n : List ℕ) (cs : List Call) (e : every type_fits cs ≡ true) where
    pub made-sound : Sound cat holder (made cat holder t n cs)
    made-sound = from-sound cs _ e (fresh-sound cat holder t n)

    -- before finish, and after it
    pub made-filled : Filled cat (made cat holder t n cs).state.cursor (fields_of (table_of (made cat holder t n cs)))
    made-filled = sound-filled cat holder (made cat holder t n cs) made-sound

    pub finished-filled : (ids : List ℕ) → Filled cat (finished cat ids (made cat holder t n cs)).state.cursor (fields_of (table_of (finished cat ids (made cat holder t n cs))))
    finished-filled ids = finish-filled cat ids holder ok (made cat holder t n cs) made-sound

    pub finished-limited : (ids : List ℕ) → Limited holder (finished cat ids (made cat holder t n cs)).state
    finished-limited ids = finish-limited cat ids holder ok (made cat holder t n cs) made-sound

    pub finished-named : (ids : List ℕ) → every short (lengths_in (finished cat ids (made cat holder t n cs))) ≡ true
    finished-named ids = finish-named cat ids holder ok (made cat holder t n cs) made-sound
