-- The first and the last record of an rtype, by the place of its head.
use Rattle.std.specs.Prelude.{ℕ, ◌<◌, Bool, List, eqb, ltb, Option, Some, None}
use Rattle.lent.specs.Scan.{first, last}
use Rattle.layout.specs.Layout.{record_at, heads}
use Rattle.field.specs.declared.Holder.TheVariants.{Record}

abbrev pub is_of : List ℕ → ℕ → ℕ → Bool
is_of l rtype h = eqb (record_at l h).rtype rtype

unfoldable pub first_of : List ℕ → ℕ → Option ℕ
first_of l rtype = first (is_of l rtype) Some None (heads Record l)

unfoldable pub last_of : List ℕ → ℕ → Option ℕ
last_of l rtype = last (is_of l rtype) Some None (heads Record l)

-- what the record there gives, and what there is without one
abbrev pub at_place : {A : Type 0} → Option ℕ → A → (ℕ → A) → A
at_place None none give = none
at_place (Some h) none give = give h

-- a head lies near
abbrev pub near : ℕ → Bool
near h = ltb h 10000000

abbrev pub Near : Option ℕ → Type 0
Near None = Unit {0}
Near (Some h) = h < 10000000
