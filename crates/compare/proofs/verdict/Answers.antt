-- The first compiled record of the rtype, if there is one: hashes, then bases.
use borrow.Author.Tests.{eq-eqb, ne_eqb}
use mathlib.Core.Path.{◌∙◌, sym}
use Rattle.compare.specs.Compare.{verdict_of, base_compatible}
use Rattle.compare.proofs.verdict.Goals as goal

pub returns-in_default : goal.returns-in_default
unfolding verdict_of
returns-in_default c = rw (← c.record_rtype.ensures, sym c.first_of.ensures.place ∙ c.in_default.is)

pub returns-then-record_hash : goal.returns-then-record_hash
unfolding verdict_of
returns-then-record_hash c =
    rw (← c.record_rtype.ensures, sym c.first_of.ensures.place ∙ c.in-Some.is, ← c.record_hash.ensures, ← c.record_hash-2.ensures, eq-eqb _ _ c.if-record_hash.true)

pub returns-then-is_base_compatible : goal.returns-then-is_base_compatible
unfolding verdict_of base_compatible
returns-then-is_base_compatible c =
    rw (← c.record_rtype.ensures, sym c.first_of.ensures.place ∙ c.in-Some.is, ← c.record_hash.ensures, ← c.record_hash-2.ensures, ne_eqb _ _ c.if-record_hash.false, sym c.is_base_compatible.ensures ∙ c.if-is_base_compatible.true)

pub returns : goal.returns
unfolding verdict_of base_compatible
returns c =
    rw (← c.record_rtype.ensures, sym c.first_of.ensures.place ∙ c.in-Some.is, ← c.record_hash.ensures, ← c.record_hash-2.ensures, ne_eqb _ _ c.if-record_hash.false, sym c.is_base_compatible.ensures ∙ c.if-is_base_compatible.false)
