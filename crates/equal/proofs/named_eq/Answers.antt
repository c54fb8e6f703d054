-- Both structs are there: few fields each.
use Rattle.equal_rules.proofs.Equal.{few-named}
use mathlib.Core.Path.{◌∙◌, sym}
use Rattle.equal.proofs.named_eq.Goals as goal

pub returns-then-not-has_struct : goal.returns-then-not-has_struct
returns-then-not-has_struct c = rw (sym c.has_struct.ensures ∙ c.if-not-has_struct.true)

pub returns-then-not-has_struct-2 : goal.returns-then-not-has_struct-2
returns-then-not-has_struct-2 c = rw (sym c.has_struct.ensures ∙ c.if-not-has_struct.false, sym c.has_struct-2.ensures ∙ c.if-not-has_struct-2.true)

pub struct_eq-requires : goal.struct_eq-requires
struct_eq-requires c = (
  rw c.struct_head.ensures.0 (few-named c.args.s.now c.args.f c.requires.0 (sym c.has_struct.ensures ∙ c.if-not-has_struct.false)),
  rw c.struct_head-2.ensures.0 (few-named c.args.c.now c.args.g c.requires.1 (sym c.has_struct-2.ensures ∙ c.if-not-has_struct-2.false)),
)

pub returns : goal.returns
returns c = rw (sym c.has_struct.ensures ∙ c.if-not-has_struct.false, sym c.has_struct-2.ensures ∙ c.if-not-has_struct-2.false, ← c.struct_head.ensures.0, ← c.struct_head-2.ensures.0) c.struct_eq.ensures
