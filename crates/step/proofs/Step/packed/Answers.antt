use Rattle.step.specs.Packed.{packed_of}
use Rattle.step.proofs.Step.packed.Goals as goal

pub returns-in-Copy : goal.returns-in-Copy
unfolding packed_of
returns-in-Copy c = rw c.in-Copy.is c.packed_as.ensures

pub returns-in-Int : goal.returns-in-Int
unfolding packed_of
returns-in-Int c = rw (c.in-Int.is, ← c.one.ensures, ← c.one-in-Int.ensures) c.packed_as-in-Int.ensures
