-- The paper's number of each refusal.
use Rattle.std.specs.Prelude.{ℕ}
use Rattle.limits.specs.declared.refusal.Refusal.{Refusal}
use Rattle.limits.specs.declared.refusal.Refusal.TheVariants.{BadCatalogue, BadShape, ReservedByte, OutOfBounds, SharedByte, WrongWidth, BadHeader, BadDefaults, BadLength, Unplanned, NoRoom, TooDeep, OverBudget, CursorFull, BadCall, BadPlan}

abbrev pub number_of : Refusal → ℕ
number_of BadCatalogue = 1
number_of BadShape = 2
number_of ReservedByte = 3
number_of OutOfBounds = 4
number_of SharedByte = 5
number_of WrongWidth = 6
number_of BadHeader = 7
number_of BadDefaults = 8
number_of BadLength = 9
number_of Unplanned = 10
number_of NoRoom = 11
number_of TooDeep = 12
number_of OverBudget = 13
number_of CursorFull = 14
number_of BadCall = 15
number_of BadPlan = 16
