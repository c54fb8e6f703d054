-- Laws of the verdict. Assumes nothing.
use mathlib.Core.Path.{◌≡◌, refl, ap, ◌∙◌}
use mathlib.Core.Bool.{Bool, true, false, ◌||◌}
use mathlib.Core.List.{List, [], ◌∷◌}
use Prim.Native.Nat.{ℕ}
use borrow.Author.Tests.{eq-eqb}
use Rattle.lent.specs.Scan.{every, some}
use Rattle.field.specs.Field.{fields_of}
use Rattle.field.specs.declared.FieldDef.{FieldDef}
use Rattle.layout.specs.Layout.{RecordLayout, record_at}
use Rattle.layout.specs.Find.{first_of}
use Rattle.std.specs.Prelude.{Some}
use Rattle.equal_rules.specs.Equal.{field_eq}
use Rattle.compare.specs.Compare.{met, base_compatible, matches, verdict_of}
use Rattle.compare.specs.declared.answer.Verdict.TheVariants.{Compiled}

-- a layout against itself: the first record of its rtype is compiled
pub same-compiled : (cat l : List ℕ) (h : ℕ) → first_of l (record_at l h).rtype ≡ Some h → verdict_of cat l h l ≡ Compiled
unfolding verdict_of
same-compiled cat l h e = rw (e, eq-eqb (record_at l h).hash (record_at l h).hash refl)

-- and so is any record that stores the hash of the first compiled record of its rtype
pub hash-compiled : (cat s c : List ℕ) (h g : ℕ) → first_of c (record_at s h).rtype ≡ Some g → (record_at s h).hash ≡ (record_at c g).hash → verdict_of cat s h c ≡ Compiled
unfolding verdict_of
hash-compiled cat s c h g e f = rw (e, eq-eqb (record_at s h).hash (record_at c g).hash f)

-- ---- the order of the stream's fields does not matter

-- the same things in another order
pub data Permuted {A : Type 0} : List A → List A → Type 0 where
  nil : Permuted [] []
  keep : (x : A) (xs ys : List A) → Permuted xs ys → Permuted (x ∷ xs) (x ∷ ys)
  swap : (x y : A) (xs : List A) → Permuted (x ∷ y ∷ xs) (y ∷ x ∷ xs)
  then : (xs ys zs : List A) → Permuted xs ys → Permuted ys zs → Permuted xs zs

or_swap : (a b c : Bool) → (a || (b || c)) ≡ (b || (a || c))
or_swap true true c = refl
or_swap true false c = refl
or_swap false b c = refl

pub some-permuted : {A : Type 0} (test : A → Bool) (xs ys : List A) → Permuted xs ys → some test xs ≡ some test ys
unfolding some
some-permuted test _ _ nil = refl
some-permuted test _ _ (keep x xs ys p) = ap (λ (b : Bool). test x || b) (some-permuted test xs ys p)
some-permuted test _ _ (swap x y xs) = or_swap (test x) (test y) (some test xs)
some-permuted test _ _ (then xs ys zs p q) = some-permuted test xs ys p ∙ some-permuted test ys zs q

met-permuted : (cat s : List ℕ) (xs ys : List FieldDef) (c : List ℕ) → Permuted xs ys → (wants : List FieldDef)
    → every (met cat s xs c) wants ≡ every (met cat s ys c) wants
unfolding every
met-permuted cat s xs ys c p [] = refl
met-permuted cat s xs ys c p (w ∷ ws) =
    rw (some-permuted (λ have. field_eq cat s have c w) xs ys p, met-permuted cat s xs ys c p ws)

module _ (cat s : List ℕ) (r r' : RecordLayout) (c : List ℕ) (q : RecordLayout) (eb : r.base ≡ r'.base) (p : Permuted (fields_of r.table) (fields_of r'.table)) where
  pub base-permuted : base_compatible cat s r c q ≡ base_compatible cat s r' c q
  unfolding base_compatible
  base-permuted = rw (eb, met-permuted cat s (fields_of r.table) (fields_of r'.table) c p (fields_of q.table))

  pub verdict-permuted : r.hash ≡ r'.hash → matches cat s r c q ≡ matches cat s r' c q
  verdict-permuted eh = rw (base-permuted, eh)
