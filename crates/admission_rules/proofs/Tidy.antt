-- Layouts whose tables are tidy are admitted. Assumes nothing.
use Rattle.std.specs.Prelude.{Ok}
use mathlib.Core.Path.{◌≡◌, refl}
use mathlib.Core.Bool.{Bool, true}
use mathlib.Core.List.{List, [], ◌∷◌}
use Prim.Native.Nat.{ℕ}
use Rattle.lent.specs.Scan.{every}
use Rattle.lent.proofs.Scan.{both}
use Rattle.field.specs.Field.{fields_of}
use Rattle.table_rules.proofs.Tidy.{keeps}
use Rattle.table_rules.specs.declared.Rule.{Rule}
use Rattle.table_rules.specs.declared.Rule.TheVariants.{Reserved, Bounds, Apart, Width}
use Rattle.layout.specs.Layout.{heads, table_at, limit_at}
use Rattle.field.specs.declared.Holder.{Holder}
use Rattle.field.specs.declared.Holder.TheVariants.{Record, Struct}
use Rattle.admission_rules.specs.Admission.{head_ok, layout_ok, admit_tables}
use Rattle.admission_rules.specs.Parts.{head_passes, layout_passes}
use Rattle.admission_rules.specs.declared.Test.TheVariants.{Tidy}

-- a test that follows from another
implied : {A : Type 0} (p q : A → Bool) → ((x : A) → p x ≡ true → q x ≡ true) → (xs : List A) → every p xs ≡ true → every q xs ≡ true
unfolding every
implied p q h [] e = refl
implied p q h (x ∷ xs) e = let z = both (p x) (every p xs) e in rw (h x z.0) (implied p q h xs z.1)

module _ (cat : List ℕ) (rule : Rule) where
  tables-keep : (holder : Holder) (l hs : List ℕ) → every (head_passes Tidy holder cat l) hs ≡ true → every (head_ok rule holder cat l) hs ≡ true
  tables-keep holder l = implied (head_passes Tidy holder cat l) (head_ok rule holder cat l) (λ h e. keeps cat (limit_at holder l h) rule (fields_of (table_at holder l h)) e)

  layout-keeps : (l : List ℕ) → layout_passes Tidy cat l ≡ true → layout_ok rule cat l ≡ true
  unfolding layout_ok
  layout-keeps l e =
      let z = both (every (head_passes Tidy Record cat l) (heads Record l)) (every (head_passes Tidy Struct cat l) (heads Struct l)) e in
      rw (tables-keep Record l (heads Record l) z.0) (tables-keep Struct l (heads Struct l) z.1)

  all_keep : (ls : List (List ℕ)) → every (layout_passes Tidy cat) ls ≡ true → every (layout_ok rule cat) ls ≡ true
  all_keep = implied (layout_passes Tidy cat) (layout_ok rule cat) layout-keeps

pub tidy-fine : (cat : List ℕ) (ls : List (List ℕ)) → every (layout_passes Tidy cat) ls ≡ true → (Ok tt) ≡ admit_tables cat ls
tidy-fine cat ls e = rw (all_keep cat Reserved ls e, all_keep cat Bounds ls e, all_keep cat Apart ls e, all_keep cat Width ls e)
