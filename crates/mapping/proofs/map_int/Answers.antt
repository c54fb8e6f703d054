use Rattle.mapping.proofs.Cases.{Halves, neg-out, neg-in, pos-top, pos-out, pos-in, u_top, u-out, u-in, unmarked}
use Rattle.mapping.specs.Mapping.{span}
use borrow.Author.Tests.{ne_eqb}
use Rattle.mapping.proofs.map_int.Goals.{After-half_of-b, else-marked-via-then-marked+else-v-a, else-marked-via-else-marked, else-marked-2-via-then-marked-2+else-v-a-2, else-marked-2-via-else-marked-2}
use mathlib.Core.Logic.{inl, inr}
use native.Mathlib.Omega.{arith}
use Rattle.mapping.proofs.map_int.Goals as goal

-- what is known of the two halves and of the number
halves : (c : After-half_of-b) → Halves c.args.from c.args.to c.args.marked c.args.v c.half_of-a.result c.half_of-b.result
unfolding span
halves c =
    let a = c.half_of-a.ensures in
    let b = c.half_of-b.ensures in
    record { ea = a.0; eb = b.0; la = a.2; pa = a.1; lb = b.2; pb = b.1; fit = rw a.0 c.requires.2 }

pub overflow_add-k : goal.overflow_add-k
overflow_add-k c = let h = halves (goal.at.overflow_add-k c).After-half_of-b in omega arith

pub returns-then-k-b : goal.returns-then-k-b
returns-then-k-b c = neg-out (halves (goal.at.returns-then-k-b c).After-half_of-b) c.if-signed.true c.if-a-v.true c.if-k-b.true

pub overflow_add-result : goal.overflow_add-result
overflow_add-result c = let h = halves (goal.at.overflow_add-result c).After-half_of-b in omega arith

pub overflow_add-result-then-a-v : goal.overflow_add-result-then-a-v
overflow_add-result-then-a-v c = let h = halves (goal.at.overflow_add-result-then-a-v c).After-half_of-b in omega arith

pub returns-then-a-v : goal.returns-then-a-v
returns-then-a-v c = neg-in (halves (goal.at.returns-then-a-v c).After-half_of-b) c.if-signed.true c.if-a-v.true c.if-k-b.false

pub returns-then-v-a : goal.returns-then-v-a
returns-then-v-a c = pos-top (halves (goal.at.returns-then-v-a c).After-half_of-b) c.if-signed.true c.if-marked.true c.if-a-v.false c.if-v-a.true

pub returns-then-b-v : goal.returns-then-b-v
returns-then-b-v c = pos-out (halves (goal.at.returns-then-b-v c).After-half_of-b) c.if-signed.true c.if-a-v.false c.if-b-v.true

pub returns-then-signed : goal.returns-then-signed
returns-then-signed c = pos-in (halves (goal.at.returns-then-signed c).After-half_of-b) c.if-signed.true c.if-a-v.false c.if-b-v.false
    (elim c.else-marked.branch [
      | else-marked-via-then-marked+else-v-a w ↦ unmarked _ _ (inl (ne_eqb _ _ w.if-v-a.false))
      | else-marked-via-else-marked w ↦ unmarked _ _ (inr w.if-marked.false)
    ])

pub returns-then-v-a-2 : goal.returns-then-v-a-2
returns-then-v-a-2 c = u_top (halves (goal.at.returns-then-v-a-2 c).After-half_of-b) c.if-signed.false c.if-marked-2.true c.if-v-a-2.true

pub returns-then-b-v-2 : goal.returns-then-b-v-2
returns-then-b-v-2 c = u-out (halves (goal.at.returns-then-b-v-2 c).After-half_of-b) c.if-signed.false c.if-b-v-2.true

pub returns : goal.returns
returns c = u-in (halves (goal.at.returns c).After-half_of-b) c.if-signed.false c.if-b-v-2.false
    (elim c.else-marked-2.branch [
      | else-marked-2-via-then-marked-2+else-v-a-2 w ↦ unmarked _ _ (inl (ne_eqb _ _ w.if-v-a-2.false))
      | else-marked-2-via-else-marked-2 w ↦ unmarked _ _ (inr w.if-marked-2.false)
    ])
