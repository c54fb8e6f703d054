use Rattle.plan_rules.specs.Rule.{step_for}
use borrow.Author.Tests.{le-leb, lt-leb}
use mathlib.Core.Path.{◌∙◌, sym}
use Rattle.plan.proofs.rule.op_for.Goals as goal

pub returns-then-same_kind : goal.returns-then-same_kind
unfolding step_for
returns-then-same_kind c = rw (c.copy.ensures, sym c.same_kind.ensures ∙ c.if-same_kind.true)

pub returns-then-apart : goal.returns-then-apart
unfolding step_for
returns-then-apart c = rw (sym c.same_kind.ensures ∙ c.if-same_kind.false, sym c.apart.ensures ∙ c.if-apart.true)

pub returns-then-have-want : goal.returns-then-have-want
unfolding step_for
returns-then-have-want c = let other = sym c.same_kind.ensures ∙ c.if-same_kind.false in
    let near = sym c.apart.ensures ∙ c.if-apart.false in
    rw (c.copy-then-have-want.ensures, other, near, ← c.is_string.ensures, ← c.is_string-2.ensures, c.if-is_string.true, le-leb _ _ c.if-have-want.true)

pub returns-then-is_string : goal.returns-then-is_string
unfolding step_for
returns-then-is_string c = let other = sym c.same_kind.ensures ∙ c.if-same_kind.false in
    let near = sym c.apart.ensures ∙ c.if-apart.false in
    rw (other, near, ← c.is_string.ensures, ← c.is_string-2.ensures, c.if-is_string.true, lt-leb _ _ c.if-have-want.false)

pub returns-then-same_sign-have : goal.returns-then-same_sign-have
unfolding step_for
returns-then-same_sign-have c = let other = sym c.same_kind.ensures ∙ c.if-same_kind.false in
    let near = sym c.apart.ensures ∙ c.if-apart.false in
    rw (c.int.ensures, other, near, ← c.is_string.ensures, ← c.is_string-2.ensures, c.if-is_string.false, ← c.same_sign.ensures, c.if-same_sign-have.true)

pub returns : goal.returns
unfolding step_for
returns c = let other = sym c.same_kind.ensures ∙ c.if-same_kind.false in
    let near = sym c.apart.ensures ∙ c.if-apart.false in
    rw (other, near, ← c.is_string.ensures, ← c.is_string-2.ensures, c.if-is_string.false, ← c.same_sign.ensures, c.if-same_sign-have.false)
