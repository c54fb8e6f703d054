-- Turns of the lookups, and what an answer of none means. Assumes nothing.
use Rattle.std.specs.Prelude.{None, Option, Some}
use mathlib.Core.Path.{◌≡◌, refl, sym, ◌∙◌}
use mathlib.Core.Bool.{Bool, true, false, cond, not, ◌&&◌}
use mathlib.Core.List.{List, [], ◌∷◌, ◌++◌, map}
use Prim.Native.Nat.{ℕ, ◌+◌, ◌-◌, ◌<◌}
use lib.Dec.{eqb}
use Rattle.lent.specs.Scan.{gather, first, last, alike, places}
use Rattle.lent.proofs.Scan.{turn, none}
use Rattle.field.specs.Field.{is_padding}
use Rattle.field.specs.declared.FieldDef.{FieldDef}
use Rattle.layout.specs.Layout.{record_at}
use Rattle.index_rules.specs.Index.{fields_if_of, fields_of_rtype, Named, named, has_name}

-- the last of two lists, one after the other
pub last-append : {A B : Type 0} (test : A → Bool) (give : A → B) (before : B) (xs ys : List A)
    → last test give before (xs ++ ys) ≡ last test give (last test give before xs) ys
unfolding last
last-append test give before [] ys = refl
last-append test give before (x ∷ xs) ys = last-append test give (cond (test x) (give x) before) xs ys

-- ---- record by record

module _ (test : FieldDef → Bool) (l : List ℕ) (rtype : ℕ) (found : Option FieldDef) {hs : List ℕ} {all : Option FieldDef}
    (so : last test Some found (fields_of_rtype rtype (map (record_at l) hs)) ≡ all) where
  pub record-turn : {h : ℕ} {others : List ℕ} → hs ≡ h ∷ others
      → last test Some (last test Some found (fields_if_of rtype (record_at l h))) (fields_of_rtype rtype (map (record_at l) others)) ≡ all
  unfolding fields_of_rtype
  record-turn {h = h} {others = others} e =
      sym (last-append test Some found (fields_if_of rtype (record_at l h)) (fields_of_rtype rtype (map (record_at l) others))) ∙ rw e at so

  pub records-end : hs ≡ [] → found ≡ all
  unfolding fields_of_rtype last
  records-end e = rw e at so

-- ---- name by name

module _ (cat name : List ℕ) (names : List (List ℕ)) (fs : List FieldDef) {all : Option FieldDef}
    (so : first (has_name cat name) (λ f. Some f.def) None (named names fs) ≡ all) where
  module _ {n : List ℕ} {others : List (List ℕ)} (en : names ≡ n ∷ others) {f : FieldDef} {behind : List FieldDef} (ef : fs ≡ f ∷ behind) where
    pub name-here : (alike eqb n name && not (is_padding cat f)) ≡ true → Some f ≡ all
    unfolding named first
    name-here e = rw (en, ef, e) at so

    pub name-later : (alike eqb n name && not (is_padding cat f)) ≡ false → first (has_name cat name) (λ f. Some f.def) None (named others behind) ≡ all
    unfolding named first
    name-later e = rw (en, ef, e) at so

  pub names-end : names ≡ [] → None ≡ all
  unfolding named first
  names-end e = rw e at so

  pub fields-end : fs ≡ [] → None ≡ all
  unfolding named first
  fields-end e = go names (rw e at so) where
    go : (ns : List (List ℕ)) → first (has_name cat name) (λ f. Some f.def) None (named ns []) ≡ all → None ≡ all
    go [] z = z
    go (n ∷ ns) z = z
