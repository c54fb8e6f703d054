-- A refusal's number tells which it is. Assumes nothing.
use mathlib.Core.Path.{◌≡◌, refl, sym, ap, ◌∙◌}
use mathlib.Core.List.{List, [], ◌∷◌}
use Prim.Native.Nat.{ℕ}
use lib.ListN.{get_or}
use Rattle.limits.specs.Refusal.{number_of}
use Rattle.limits.specs.declared.refusal.Refusal.{Refusal}
use Rattle.limits.specs.declared.refusal.Refusal.TheVariants.{BadCatalogue, BadShape, ReservedByte, OutOfBounds, SharedByte, WrongWidth, BadHeader, BadDefaults, BadLength, Unplanned, NoRoom, TooDeep, OverBudget, CursorFull, BadCall, BadPlan}

-- all of them, with one before the first, which has number 1
in_order : List Refusal
in_order = BadCatalogue ∷ BadCatalogue ∷ BadShape ∷ ReservedByte ∷ OutOfBounds ∷ SharedByte ∷ WrongWidth ∷ BadHeader ∷ BadDefaults ∷ BadLength ∷ Unplanned ∷ NoRoom ∷ TooDeep ∷ OverBudget ∷ CursorFull ∷ BadCall ∷ BadPlan ∷ []

named : (r : Refusal) → get_or in_order (number_of r) BadCatalogue ≡ r
unfolding in_order
named BadCatalogue = refl
named BadShape = refl
named ReservedByte = refl
named OutOfBounds = refl
named SharedByte = refl
named WrongWidth = refl
named BadHeader = refl
named BadDefaults = refl
named BadLength = refl
named Unplanned = refl
named NoRoom = refl
named TooDeep = refl
named OverBudget = refl
named CursorFull = refl
named BadCall = refl
named BadPlan = refl

pub number-injective : (r s : Refusal) → number_of r ≡ number_of s → r ≡ s
number-injective r s e = sym (named r) ∙ ap (λ (n : ℕ). get_or in_order n BadCatalogue) e ∙ named s
