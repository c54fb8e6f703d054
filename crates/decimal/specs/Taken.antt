-- What a reader does: the number that it takes of a text from a place on, and the place where it goes on.
use Rattle.std.specs.Prelude.{ℕ, ◌≤◌, ◌≡◌, List, length, drop}
use Rattle.decimal.specs.Decimal.{number, past}

pub record Taken (text : List ℕ) (at value next : ℕ) : Type 0 where
  pub number-there : value ≡ number 0 (drop at text)
  pub rest : drop next text ≡ past (drop at text)
  pub inside : next ≤ length text

-- n characters are passed over, or as many as there are
pub record Skipped (text : List ℕ) (at n next : ℕ) : Type 0 where
  pub rest : drop next text ≡ drop n (drop at text)
  pub inside : next ≤ length text
