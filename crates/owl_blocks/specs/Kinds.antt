-- The classes that a line's words depend on, by their numbers in the catalogue.
use Rattle.std.specs.Prelude.{ℕ, cond, eqb}
use Rattle.owl_blocks.specs.declared.types.Class.{Class}
use Rattle.owl_blocks.specs.declared.types.Class.TheVariants.{Unsigned, Signed, Text, Other}

abbrev pub class_of : ℕ → Class
class_of n = cond (eqb n 1) Unsigned (cond (eqb n 2) Signed (cond (eqb n 4) Text Other))
