-- Turns of the comparison of two records. Assumes nothing.
use mathlib.Core.Path.{◌≡◌, refl, sym}
use mathlib.Core.Bool.{Bool, true, false, ◌||◌}
use mathlib.Core.List.{List}
use Prim.Native.Nat.{ℕ, ◌≤◌, ◌<◌}
use borrow.Author.Tests.{le-leb, lt-leb}
use Rattle.lent.specs.Scan.{every, some}
use Rattle.field.specs.Field.{fields_of, is_padding}
use Rattle.field.specs.declared.FieldDef.{FieldDef}
use Rattle.layout.specs.Layout.{RecordLayout}
use Rattle.equal_rules.specs.Equal.{field_eq}
use Rattle.compare.specs.Compare.{met, base_compatible}

module _ (cat s : List ℕ) (r : RecordLayout) (c : List ℕ) (q : RecordLayout) where
  pub base-smaller : r.base < q.base → false ≡ base_compatible cat s r c q
  unfolding base_compatible
  base-smaller h = rw (lt-leb _ _ h)

  pub base-larger : q.base ≤ r.base → (t u : List ℕ) → t ≡ r.table → u ≡ q.table → every (met cat s (fields_of t) c) (fields_of u) ≡ base_compatible cat s r c q
  unfolding base_compatible
  base-larger h t u et eu = rw (le-leb _ _ h, et, eu)

-- what a compiled field needs: nothing if it is padding, else an equal
module _ (cat s : List ℕ) (haves : List FieldDef) (c : List ℕ) (want : FieldDef) where
  pub met-padding : is_padding cat want ≡ true → met cat s haves c want ≡ true
  met-padding p = rw p

  pub met-found : true ≡ some (λ have. field_eq cat s have c want) haves → met cat s haves c want ≡ true
  met-found f = go (is_padding cat want) f where
    go : (p : Bool) → true ≡ some (λ have. field_eq cat s have c want) haves → (p || some (λ have. field_eq cat s have c want) haves) ≡ true
    go true g = refl
    go false g = sym g

  pub met-lacks : is_padding cat want ≡ false → false ≡ some (λ have. field_eq cat s have c want) haves → met cat s haves c want ≡ false
  met-lacks p f = rw p (sym f)
