-- What the cursor's exports rest on: the state goes in, the call answers, and the answer is told.
use Prim.Native.Nat.{ℕ}
use mathlib.Core.List.{List}
use mathlib.Core.Path.{◌≡◌, ◌∙◌, ap}
use Rattle.cursor_rules.specs.Cursor.{Building, building, Outcome, outcome}
use Rattle.cursor_rules.specs.declared.FieldCursor.{FieldCursor}
use Rattle.std.specs.Prelude.{Result}
use Rattle.limits.specs.declared.refusal.Refusal.{Refusal}
use Rattle.tuppenceowl_c.specs.Building.{state_in, lent_to, placed_status, state_or, hosted, hosted_of}

pub telling : (call : Building → Outcome) (s t ns : List ℕ) {u v ms : List ℕ} {c : FieldCursor} {p : Result FieldCursor Refusal} {r : ℕ}
    → c ≡ state_in s → outcome p v ms ≡ call (building c t ns) → (r ≡ placed_status p) × (u ≡ state_or p s)
    → hosted r u v ms ≡ hosted_of (call (lent_to s t ns)) s
telling call s t ns {u} {v} {ms} {c} {p} {r} taken answered told =
    let o : outcome p v ms ≡ call (lent_to s t ns) = answered ∙ ap (λ (x : FieldCursor). call (building x t ns)) taken in
    rw (told.0, told.1) (ap (λ (x : Outcome). hosted_of x s) o)
