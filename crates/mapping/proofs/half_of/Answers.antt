-- `step::half_of` meets its contract. Assumes nothing.
use Prim.Native.Nat.{ℕ}
use Rattle.mapping.proofs.Halves.{shifted, half_pos, half_le}
use mathlib.Core.Path.{refl}
use Rattle.mapping.proofs.half_of.Goals as goal

pub returns : goal.returns
returns c = let n : ℕ = c.args.n in
    rw (shifted n c.requires.1 c.requires.0) (refl, half_pos n, half_le n c.requires.1)
