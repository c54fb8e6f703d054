-- Neighbours of a plan that become one step.
use Rattle.std.specs.Prelude.{ℕ, ◌+◌, Bool, true, false, cond, ◌&&◌, List, [], ◌∷◌, leb, eqb}
use Rattle.step.specs.Step.{copy, source_of, target_of, takes}
use Rattle.step.specs.declared.Op.{Op}
use Rattle.step.specs.declared.Op.TheVariants.{Copy, Int}
use Rattle.step.specs.declared.Step.{Step}

abbrev pub is_copy : Op → Bool
is_copy (Copy source target size) = true
is_copy (Int source target from to signed marked) = false

-- a step that ends inside both bases
abbrev pub in_bases : ℕ → ℕ → Step → Bool
in_bases src_base base s = leb (source_of s + takes s) src_base && leb (target_of s + takes s) base

-- the second begins where the first ends, in source and target
abbrev pub adjacent : Step → Step → Bool
adjacent a b = eqb (source_of a + takes a) (source_of b) && eqb (target_of a + takes a) (target_of b)

-- both copies, both adjacent, each ending inside both bases
unfoldable pub joins : ℕ → ℕ → Step → Step → Bool
joins src_base base a b =
    (is_copy a.op && is_copy b.op) && ((in_bases src_base base a && in_bases src_base base b) && adjacent a b)

abbrev pub joined : Step → Step → Step
joined a b = copy (source_of a) (target_of a) (takes a + takes b)

-- `a` is the last of those joined so far
unfoldable pub join_from : ℕ → ℕ → Step → List Step → List Step
join_from src_base base a [] = a ∷ []
join_from src_base base a (b ∷ ss) =
    cond (joins src_base base a b) (join_from src_base base (joined a b) ss) (a ∷ join_from src_base base b ss)

unfoldable pub join_all : ℕ → ℕ → List Step → List Step
join_all src_base base [] = []
join_all src_base base (a ∷ ss) = join_from src_base base a ss
