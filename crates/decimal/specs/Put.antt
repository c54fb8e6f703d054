-- What a writer does: it stores a run of bytes from a place on, and answers the place behind it.
use Rattle.std.specs.Prelude.{ℕ, ◌+◌, ◌≡◌, List, length}
use Rattle.std.proofs.lemmas.List.Edits.{sets}

pub record Put (old : List ℕ) (at : ℕ) (what new : List ℕ) (next : ℕ) : Type 0 where
  pub stored : new ≡ sets old at what
  pub behind : next ≡ at + length what
