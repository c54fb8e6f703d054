-- The entries are those of the fields from place k on.
use Rattle.std.proofs.Common.{◌≡◌, length}
use Rattle.places.proofs.Indexed.{IndexFrom}
use Rattle.places.proofs.Index.of.Given as goal

abbrev pub invariant-loop-k : goal.invariant-loop-k
invariant-loop-k l = (length l.firsts ≡ 256) × IndexFrom l.table l.firsts l.k
