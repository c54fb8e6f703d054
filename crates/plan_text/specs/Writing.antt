-- What the writer answers, and what it leaves: refusal 16 before 11.
use Rattle.std.specs.Prelude.{ℕ, Bool, cond, List, Result, Ok, Err, leb, length}
use Rattle.std.proofs.lemmas.List.Edits.{sets}
use Rattle.limits.specs.declared.refusal.Refusal.{Refusal}
use Rattle.limits.specs.declared.refusal.Refusal.TheVariants.{BadPlan, NoRoom}
use Rattle.slot.specs.Slot.{plan_in, slot_ok}
use Rattle.plan_text.specs.Text.{text_of}

-- the text of the plan that a slot holds
abbrev pub text_in : List ℕ → List ℕ
text_in slot = text_of (plan_in slot)

abbrev pub fits : List ℕ → List ℕ → Bool
fits slot text = leb (length (text_in slot)) (length text)

-- the length of the text
unfoldable pub written_of : List ℕ → List ℕ → Result ℕ Refusal
written_of slot text = cond (slot_ok slot) (cond (fits slot text) (Ok (length (text_in slot))) (Err NoRoom)) (Err BadPlan)

-- the text at the start, and what stands past it as it was; refused: all as it was
unfoldable pub after_writing : List ℕ → List ℕ → List ℕ
after_writing slot text = cond (slot_ok slot) (cond (fits slot text) (sets text 0 (text_in slot)) text) text
