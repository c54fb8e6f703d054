-- Turns of the walk that the code makes: one that feeds a sum. Assumes nothing.
use mathlib.Core.Path.{◌≡◌, refl, sym, ap, ◌∙◌, subst}
use mathlib.Core.Bool.{Bool, true, false, cond}
use mathlib.Core.List.{List, map}
use Prim.Native.Nat.{ℕ, suc, ◌+◌, ◌-◌, ◌*◌, ◌/◌, ◌≤◌, ◌<◌}
use native.Mathlib.Omega.{arith}
use borrow.Author.Tests.{ltb-true}
use lib.Dec.{ltb, eqb}
use lib.ListN.{length, get_or, drop, drop_of_length-le}
use Rattle.limits.specs.Limits.{max_fields}
use Rattle.limits.specs.declared.refusal.Refusal.{Refusal}
use Rattle.limits.specs.declared.refusal.Refusal.TheVariants.{OverBudget, TooDeep}
use Rattle.lent.specs.Bytes.{bytes_of}
use Rattle.lent.specs.Scan.{gather}
use Rattle.lent.proofs.Scan.{both, next}
use Rattle.catalogue.specs.Catalogue.{class_of, struct}
use Rattle.crc64.specs.Sum.{bytes_step}
use Rattle.field.specs.Field.{field_at, fields_of}
use Rattle.field.specs.declared.FieldDef.{FieldDef}
use Rattle.field.specs.Order.{by_offset}
use Rattle.layout.specs.Layout.{struct_at, count_of, head_of, struct_of, FewFields}
use Rattle.field.specs.declared.Holder.TheVariants.{Struct}
use Rattle.feed.specs.Feed.{field_bytes}
use Rattle.hash_rules.specs.Walk.{Walked, Went, Stopped, after, names_struct, walk_field, walk_fields, walk_table}
use Rattle.hash_rules.specs.Parts.{told, visit_of}
use Rattle.hash_rules.specs.declared.Walked.{Walked as WalkedTo}
use Rattle.hash_rules.specs.declared.Visit.{Visit}
use Rattle.hash_rules.specs.declared.Visit.TheVariants.{On, Enter}
use Rattle.std.proofs.Common.{Result, Ok, Err}

-- what becomes of a visit
abbrev pub taken : (List FieldDef → ℕ → ℕ → Walked ℕ) → List ℕ → Result Visit Refusal → Walked ℕ
taken enter l (Ok (On walked)) = Went walked.fp walked.visits
taken enter l (Ok (Enter walked head)) = enter (fields_of (struct_at l head).table) walked.fp walked.visits
taken enter l (Err refusal) = Stopped refusal

-- a struct that is entered has few fields
abbrev pub Few : List ℕ → Result Visit Refusal → Type 0
Few l (Ok (On walked)) = Unit {0}
Few l (Ok (Enter walked head)) = length (struct_at l head).table ≤ 16 * max_fields
Few l (Err refusal) = Unit {0}

picked : (enter : List FieldDef → ℕ → ℕ → Walked ℕ) (l : List ℕ) (p q : Bool) (a b : Result Visit Refusal)
    → taken enter l (cond p (cond q a b) (Err OverBudget)) ≡ cond p (cond q (taken enter l a) (taken enter l b)) (Stopped OverBudget)
picked enter l true true a b = refl
picked enter l true false a b = refl
picked enter l false q a b = refl

module _ (cat l : List ℕ) (budget : ℕ) (f : FieldDef) (fp visits : ℕ) where
  enters : Result Visit Refusal
  enters = Ok (Enter (record { fp = bytes_step (bytes_step fp (field_bytes f)) (bytes_of 2 (struct_of l f).size); visits = visits + 1 }) (head_of l f))

  goes_on : Result Visit Refusal
  goes_on = Ok (On (record { fp = bytes_step fp (field_bytes f); visits = visits + 1 }))

  -- a visit, taken, is the walk of its field
  pub taken-walks : (enter : List FieldDef → ℕ → ℕ → Walked ℕ) (r : Result Visit Refusal) → r ≡ visit_of cat l budget f fp visits
      → told (taken enter l r) ≡ told (walk_field bytes_step cat l budget enter f fp visits)
  unfolding visit_of walk_field enters goes_on
  taken-walks enter r e =
      ap (λ (v : Result Visit Refusal). told (taken enter l v)) e
      ∙ ap told (picked enter l (ltb visits budget) (names_struct cat l f) enters goes_on)

  -- a struct that a visit enters has few fields
  pub few-entered : FewFields l → (r : Result Visit Refusal) → r ≡ visit_of cat l budget f fp visits → Few l r
  unfolding visit_of enters goes_on
  few-entered h r e = subst (λ (v : Result Visit Refusal). Few l v) (sym e) (go (ltb visits budget) (names_struct cat l f) refl) where
    go : (p q : Bool) → q ≡ names_struct cat l f → Few l (cond p (cond q enters goes_on) (Err OverBudget))
    go true true z =
        let z = h.few f.def_index
        (ltb-true f.def_index (count_of Struct l) (both (eqb (class_of cat f.type_id) struct) (ltb f.def_index (count_of Struct l)) (sym z)).1) in omega arith
    go true false z = tt
    go false q z = tt

-- ---- fields, one after the other

went_on : (w : Walked ℕ) (next : ℕ → ℕ → Walked ℕ) (to : WalkedTo) → Ok to ≡ told w → told (next to.fp to.visits) ≡ told (after w next)
went_on (Went s v) next to e =
    let a : to ≡ record { fp = s; visits = v } = cc in
    rw a
went_on (Stopped r) next to e = cc

stopped-there : (w : Walked ℕ) (next : ℕ → ℕ → Walked ℕ) (r : Refusal) → Err r ≡ told w → Err r ≡ told (after w next)
stopped-there (Went s v) next r e = cc
stopped-there (Stopped q) next r e = e

module _ (cat l : List ℕ) (budget : ℕ) (enter : List FieldDef → ℕ → ℕ → Walked ℕ) (F : ℕ → FieldDef) (o : List ℕ) (k fp visits : ℕ) (all : Result WalkedTo Refusal)
    (so : told (walk_fields bytes_step cat l budget enter (map F (drop k o)) fp visits) ≡ all) where
  module _ (h : k < length o) where
    rest : ℕ → ℕ → Walked ℕ
    rest = walk_fields bytes_step cat l budget enter (map F (drop (k + 1) o))

    turn : told (after (walk_field bytes_step cat l budget enter (F (get_or o k 0)) fp visits) rest) ≡ all
    unfolding walk_fields rest
    turn = rw (next o k h) at so

    -- the field's walk goes through: the rest decides
    pub walk-goes : (to : WalkedTo) → Ok to ≡ told (walk_field bytes_step cat l budget enter (F (get_or o k 0)) fp visits)
        → told (walk_fields bytes_step cat l budget enter (map F (drop (k + 1) o)) to.fp to.visits) ≡ all
    unfolding rest
    walk-goes to e = went_on (walk_field bytes_step cat l budget enter (F (get_or o k 0)) fp visits) rest to e ∙ turn

    -- it stops: so does all
    pub walk-stops : (r : Refusal) → Err r ≡ told (walk_field bytes_step cat l budget enter (F (get_or o k 0)) fp visits) → Err r ≡ all
    walk-stops r e = stopped-there (walk_field bytes_step cat l budget enter (F (get_or o k 0)) fp visits) rest r e ∙ turn

  pub walk_ends : length o ≤ k → Ok (record { fp = fp; visits = visits }) ≡ all
  unfolding walk_fields
  walk_ends h = rw (drop_of_length-le o {i = k} h) at so

-- a table is entered: its fields in offset order
pub walk-starts : (cat l : List ℕ) (budget levels : ℕ) (table o : List ℕ) (n fp visits : ℕ) → 0 < levels → n ≡ length table / 16
    → map (field_at table) o ≡ by_offset (gather (field_at table) 16 0 n)
    → told (walk_fields bytes_step cat l budget (walk_table bytes_step cat l budget (levels - 1)) (map (field_at table) o) fp visits)
    ≡ told (walk_table bytes_step cat l budget levels (fields_of table) fp visits)
unfolding walk_table
walk-starts cat l budget levels table o n fp visits h en e =
    let s : levels ≡ suc (levels - 1) = omega arith in
    rw (e, en) (ap (λ (m : ℕ). told (walk_table bytes_step cat l budget m (fields_of table) fp visits)) (sym s))

pub too-deep : (cat l : List ℕ) (budget levels : ℕ) (fs : List FieldDef) (fp visits : ℕ) → levels ≡ 0
    → Err TooDeep ≡ told (walk_table bytes_step cat l budget levels fs fp visits)
unfolding walk_table
too-deep cat l budget levels fs fp visits e = rw e
