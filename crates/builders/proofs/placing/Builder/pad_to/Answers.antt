-- A gap takes one field, no gap none.
use Rattle.cursor_rules.specs.Cursor.{gaps, pad_to}
use borrow.Author.Tests.{le-ltb, lt-ltb}
use mathlib.Core.Path.{◌∙◌, ◌≡◌}
use native.Mathlib.Omega.{arith}
use Rattle.builders.proofs.placing.Builder.pad_to.Goals as goal

pub push-requires : goal.push-requires
push-requires c = let e : gaps c.args.self.now.state c.args.to ≡ 1 = rw (lt-ltb c.args.self.now.state.cursor c.args.to c.if-from-to.true) in
    (omega arith, omega arith, omega arith, omega arith)

pub returns-then-from-to-clause-made : goal.returns-then-from-to-clause-made
unfolding pad_to
returns-then-from-to-clause-made c = c.push.ensures.made ∙ rw (c.padding_field.ensures, lt-ltb c.args.self.now.state.cursor c.args.to c.if-from-to.true)

pub returns-else-from-to-clause-made : goal.returns-else-from-to-clause-made
unfolding pad_to
returns-else-from-to-clause-made c = rw (le-ltb c.args.self.now.state.cursor c.args.to c.if-from-to.false)
