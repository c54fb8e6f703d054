-- A sound building is admitted and covers its bytes once, also after finish. Assumes nothing.
use mathlib.Core.Path.{◌≡◌, refl, sym, ap, ◌∙◌, subst}
use mathlib.Core.Bool.{Bool, true, ◌&&◌}
use mathlib.Core.List.{List, [], ◌∷◌, ◌++◌, map}
use Prim.Native.Nat.{ℕ, zero, suc, ◌+◌, ◌*◌, ◌≤◌, ◌<◌}
use native.Mathlib.Nat.{mul-suc, mul-zero}
use native.Mathlib.Numerals.{add-one}
use native.Mathlib.Omega.{arith}
use borrow.Author.Tests.{ltb-true}
use lib.ListN.{length, drop, length-take, length-drop}
use lib.Seq.{sets, length-sets, get_or-take, get_or-drop}
use Rattle.lent.specs.Bytes.{byte_at, window}
use Rattle.lent.specs.Scan.{gather, every, places}
use Rattle.lent.proofs.Scan.{both}
use Rattle.lent.proofs.Stored.{get-below, get_in}
use Rattle.catalogue.specs.Catalogue.{catalogue_ok}
use Rattle.field.specs.Field.{field_at, fields_of}
use Rattle.field.specs.declared.FieldDef.{FieldDef}
use Rattle.field.specs.Order.{sort_by}
use Rattle.field.proofs.Kept.{every-sorted, tally-sorted, length-sorted}
use Rattle.field.proofs.Mapped.{in_order, places-map}
use Rattle.table_rules.proofs.Chained.{apart-sorted, chain-apart}
use Rattle.table_rules.specs.Table.{reserved_zero, in_bounds, width_ok, table_ok}
use Rattle.table_rules.specs.declared.Rule.{Rule}
use Rattle.table_rules.specs.declared.Rule.TheVariants.{Reserved, Bounds, Apart, Width}
use Rattle.field.specs.declared.Holder.{Holder}
use Rattle.cursor_rules.specs.Cursor.{Building, building, Outcome, room}
use Rattle.calls_rules.specs.Calls.{ended_of}
use Rattle.rank.specs.Rank.{rank_of, rank_at}
use Rattle.finishing.specs.Finish.{order_of, below, picked, sorted_in, finish_of}
use Rattle.finishing.proofs.Sorting.{places-below}
use Rattle.finishing.proofs.Picking.{sets-append, inside}
use Rattle.sound.specs.Sound.{Sound, Filled, Limited, fields_in, lengths_in, short, table_of, tiles, covers, plain, after, state_after}
use Rattle.sound.proofs.Rows.{same-field, front-fields}
use Rattle.sound.proofs.Tiles.{tiles-chain, tiles-bounds, tiles-once}
use Rattle.sound.proofs.Calls.{ended-sound}
use Rattle.std.specs.Prelude.{Result, Ok, Err}
use Rattle.limits.specs.declared.refusal.Refusal.{Refusal}
use Rattle.cursor_rules.specs.declared.FieldCursor.{FieldCursor}

-- ---- before finish

module _ (cat : List ℕ) where
  first_of : (a b : FieldDef → Bool) (fs : List FieldDef) → every (λ f. a f && b f) fs ≡ true → (every a fs ≡ true) × (every b fs ≡ true)
  unfolding every
  first_of a b [] e = (refl, refl)
  first_of a b (f ∷ fs) e =
      let z = both (a f && b f) (every (λ f. a f && b f) fs) e in
      let h = both (a f) (b f) z.0 in
      let r = first_of a b fs z.1 in
      (rw h.0 r.0, rw h.1 r.1)

  fills : (end : ℕ) (fs : List FieldDef) → tiles 0 end fs ≡ true → every (plain cat) fs ≡ true → Filled cat end fs
  fills end fs t p = record { admitted = λ rule most h. admits rule most h; once = λ i. tiles-once i 0 end fs (omega arith) t } where
    admits : (rule : Rule) (most : ℕ) → end ≤ most → table_ok rule cat most fs ≡ true
    admits Reserved most h = (first_of reserved_zero (width_ok cat) fs p).0
    admits Bounds most h = tiles-bounds 0 end most fs h t
    admits Apart most h = chain-apart 0 fs (tiles-chain 0 end fs t)
    admits Width most h = (first_of reserved_zero (width_ok cat) fs p).1

  -- the fields as they are read of the table's front
  in_table : (b : Building) → b.state.count ≤ room b → fields_of (table_of b) ≡ fields_in b
  in_table b h = front-fields b.table b.state.count (omega arith)

  pub sound-filled : (holder : Holder) (b : Building) → Sound cat holder b → Filled cat b.state.cursor (fields_of (table_of b))
  sound-filled holder b s = rw (in_table b s.roomy) (fills b.state.cursor (fields_in b) s.tiled s.fine)

  pub sound-limited : (holder : Holder) (b : Building) → Sound cat holder b → Limited holder b.state
  sound-limited holder b s =
      let r = s.roomy in
      let l = s.limited in
      record { few = omega arith; ended = s.within; based = s.based }

  -- ---- the order does not matter

  filled-sorted : (key : FieldDef → ℕ) (end : ℕ) (fs : List FieldDef) → Filled cat end fs → Filled cat end (sort_by key fs)
  filled-sorted key end fs l =
      record { admitted = λ rule most h. admits rule most h; once = λ i. tally-sorted key (covers i) fs ∙ l.once i } where
        admits : (rule : Rule) (most : ℕ) → end ≤ most → table_ok rule cat most (sort_by key fs) ≡ true
        admits Reserved most h = every-sorted key reserved_zero fs ∙ l.admitted Reserved most h
        admits Bounds most h = every-sorted key (in_bounds most) fs ∙ l.admitted Bounds most h
        admits Apart most h = apart-sorted key fs ∙ l.admitted Apart most h
        admits Width most h = every-sorted key (width_ok cat) fs ∙ l.admitted Width most h

places-length : (m k : ℕ) → length (places 1 m k) ≡ k
unfolding gather
places-length m zero = refl
places-length m (suc k) = ap suc (places-length (m + 1) k)

every_map : {A B : Type 0} (p : B → Bool) (f : A → B) (xs : List A) → every p (map f xs) ≡ every (λ x. p (f x)) xs
unfolding every
every_map p f [] = refl
every_map p f (x ∷ xs) = ap (λ (b : Bool). p (f x) && b) (every_map p f xs)

-- ---- parts picked by number, read one by one

module _ {A : Type 0} (read : List ℕ → ℕ → A) (size : ℕ) (same : (s t : List ℕ) (a b : ℕ) → ((j : ℕ) → j < size → byte_at s (a + j) ≡ byte_at t (b + j)) → read s a ≡ read t b)
    (t : List ℕ) (n : ℕ) (fits : size * n ≤ length t) where
  part-byte : (k j : ℕ) → j < size → byte_at (window t (size * k) size) j ≡ byte_at t (size * k + j)
  part-byte k j h = get_or-take size (drop (size * k) t) j 0 h ∙ get_or-drop (size * k) t j 0

  picks : (ks d : List ℕ) (from : ℕ) → every (below n) ks ≡ true → from + size * length ks ≤ length d
      → gather (read (sets d from (picked t size ks))) size from (length ks) ≡ map (λ k. read t (size * k)) ks
  unfolding gather picked every
  picks [] d from e h = refl
  picks (k ∷ ks) d from e h =
      let W = window t (size * k) size in
      let P = picked t size ks in
      let m : size * suc (length ks) ≡ size * length ks + size = mul-suc size (length ks) in
      let z = both (below n k) (every (below n) ks) e in
      let i : size * k + size ≤ size * n = inside size k n (ltb-true k n z.0) in
      let w : length (window t (size * k) size) ≡ size = simp (length-take, length-drop) (omega arith) in
      let a : sets d from (W ++ P) ≡ sets (sets d from W) (from + size) P = sets-append W P d from ∙ rw w in
      let l : length (sets d from W) ≡ length d = length-sets d from W in
      let here : read (sets (sets d from W) (from + size) P) from ≡ read t (size * k) =
      same (sets (sets d from W) (from + size) P) t from (size * k)
      (λ j u. get-below P (sets d from W) (from + size) (from + j) (omega arith) ∙ get_in W d from j (omega (arith, w)) (omega (arith, w)) ∙ part-byte k j u) in
      subst (λ (s : List ℕ). gather (read s) size from (suc (length ks)) ≡ map (λ i. read t (size * i)) (k ∷ ks)) (sym a)
      (rw (here, picks ks (sets d from W) (from + size) z.1 (omega arith)))

  -- by their numbers, or by their places
  by-places : (m k : ℕ) → gather (λ i. read t (size * i)) 1 m k ≡ gather (read t) size (size * m) k
  unfolding gather
  by-places m zero = refl
  by-places m (suc k) =
      let e : size * m + size ≡ size * (m + 1) = rw (add-one m) (sym (mul-suc size m)) in
      rw (e, by-places (m + 1) k)

  -- those of an order by keys
  pub picks-sorted : (key : ℕ → ℕ) → gather (read (sets t 0 (picked t size (sort_by key (places 1 0 n))))) size 0 n ≡ map (λ k. read t (size * k)) (sort_by key (places 1 0 n))
  picks-sorted key =
      let o = sort_by key (places 1 0 n) in
      let l : length (sort_by key (places 1 0 n)) ≡ n = length-sorted key (places 1 0 n) ∙ places-length 0 n in
      let b : every (below n) (sort_by key (places 1 0 n)) ≡ true = every-sorted key (below n) (places 1 0 n) ∙ places-below n 0 n (omega arith) in
      rw l at (picks o t 0 b (rw l (omega arith)))

  -- every one that was read passes after the order what it passed before
  pub every-picked : (key : ℕ → ℕ) (p : A → Bool) → every p (gather (read t) size 0 n) ≡ true → every p (gather (read (sets t 0 (picked t size (sort_by key (places 1 0 n))))) size 0 n) ≡ true
  every-picked key p h =
      let e : size * 0 ≡ 0 = simp mul-zero in
      ap (every p) (picks-sorted key) ∙ every_map p (λ k. read t (size * k)) (sort_by key (places 1 0 n)) ∙ every-sorted key (λ k. p (read t (size * k))) (places 1 0 n)
      ∙ sym (every_map p (λ k. read t (size * k)) (places 1 0 n)) ∙ ap (every p) (places-map (λ k. read t (size * k)) (λ x. 0) 1 0 n ∙ by-places 0 n) ∙ (rw (← e) at h)

-- the sorted table's fields are the fields, sorted
pub sorted-fields : (t : List ℕ) (n : ℕ) → 16 * n ≤ length t → (cat ids : List ℕ)
    → gather (field_at (sets t 0 (picked t 16 (order_of cat ids t n)))) 16 0 n ≡ sort_by (rank_of cat ids) (gather (field_at t) 16 0 n)
sorted-fields t n fits cat ids =
    picks-sorted field_at 16 same-field t n fits (rank_at cat ids t)
    ∙ in_order (λ k. field_at t (16 * k)) (rank_of cat ids) 1 0 n (order_of cat ids t n) refl
    ∙ ap (sort_by (rank_of cat ids)) (by-places field_at 16 same-field t n fits 0 n)

same_byte : (s t : List ℕ) (a b : ℕ) → ((j : ℕ) → j < 33 → byte_at s (a + j) ≡ byte_at t (b + j)) → byte_at s a ≡ byte_at t b
same_byte s t a b h =
    let d : a + 0 ≡ a = omega arith in
    let e : b + 0 ≡ b = omega arith in
    rw (d, e) at (h 0 (omega arith))

-- ---- after finish

module _ (cat ids : List ℕ) (holder : Holder) (ok : catalogue_ok cat ≡ true) (b : Building) (s : Sound cat holder b) where
  -- what is sorted, of an outcome that left a sound building
  sorted-filled : (o : Outcome) (p : Result FieldCursor Refusal) → Sound cat holder (building (state_after b.state p) o.table o.names) → o.answer ≡ p
      → Filled cat (after b (sorted_in cat ids o p)).state.cursor (fields_of (table_of (after b (sorted_in cat ids o p))))
  sorted-filled o (Err refusal) s e = rw e (sound-filled cat holder (building b.state o.table o.names) s)
  sorted-filled o (Ok c) s e =
      let r : c.count ≤ room (building c o.table o.names) = s.roomy in
      let l : length (sets o.table 0 (picked o.table 16 (order_of cat ids o.table c.count))) ≡ length o.table = length-sets o.table 0 (picked o.table 16 (order_of cat ids o.table c.count)) in
      rw (
        front-fields (sets o.table 0 (picked o.table 16 (order_of cat ids o.table c.count))) c.count (omega arith),
        sorted-fields o.table c.count (omega arith) cat ids,
      )
      (filled-sorted cat (rank_of cat ids) c.cursor (gather (field_at o.table) 16 0 c.count) (fills cat c.cursor _ s.tiled s.fine))

  pub finish-filled : Filled cat (after b (finish_of cat ids b)).state.cursor (fields_of (table_of (after b (finish_of cat ids b))))
  finish-filled = sorted-filled (ended_of cat b) (ended_of cat b).answer (ended-sound cat holder ok b s) refl

  -- and their names are short still
  named-sorted : (o : Outcome) (p : Result FieldCursor Refusal) → Sound cat holder (building (state_after b.state p) o.table o.names) → o.answer ≡ p
      → every short (lengths_in (after b (sorted_in cat ids o p))) ≡ true
  named-sorted o (Err refusal) s e = rw e s.named
  named-sorted o (Ok c) s e =
      let r : c.count ≤ room (building c o.table o.names) = s.roomy in
      every-picked byte_at 33 same_byte o.names c.count (omega arith) (rank_at cat ids o.table) short s.named

  pub finish-named : every short (lengths_in (after b (finish_of cat ids b))) ≡ true
  finish-named = named-sorted (ended_of cat b) (ended_of cat b).answer (ended-sound cat holder ok b s) refl

  -- no more fields than the holder may have, and no end past the limit
  limits-sorted : (o : Outcome) (p : Result FieldCursor Refusal) → Sound cat holder (building (state_after b.state p) o.table o.names) → o.answer ≡ p
      → Limited holder (after b (sorted_in cat ids o p)).state
  limits-sorted o (Err refusal) s e = rw e (sound-limited cat holder (building b.state o.table o.names) s)
  limits-sorted o (Ok c) s e = sound-limited cat holder (building c o.table o.names) s

  pub finish-limited : Limited holder (after b (finish_of cat ids b)).state
  finish-limited = limits-sorted (ended_of cat b) (ended_of cat b).answer (ended-sound cat holder ok b s) refl
