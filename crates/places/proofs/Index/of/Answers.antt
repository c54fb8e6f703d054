use Rattle.std.proofs.Common.{refl, arith, ◌∙◌, ◌%◌, ◌≡◌, ◌+◌, ◌-◌, ap, ℕ}
use Rattle.field.specs.Field.{field_at}
use lib.ListN.{length-set}
use Rattle.places.proofs.Indexed.{all_in, none_yet, put_first}
use Rattle.places.proofs.Index.of.Goals as goal

pub loop-k-init : goal.loop-k-init
loop-k-init c = (refl, none_yet _ _ (omega arith))

pub loop-k-preserved : goal.loop-k-preserved
unfolding field_at
loop-k-preserved c = let l = c.loop-k in
    let up : l.k ≡ (l.k - 1) + 1 = omega arith in (
      simp length-set l.invariant.0,
      put_first c.args.table.now l.firsts (l.k - 1) _ (rw up at l.invariant.1) (omega arith) l.invariant.0 (c.from-low.ensures ∙ ap (λ (x : ℕ). x % 256) c.u16_in.ensures),
    )

pub invariant_of-result : goal.invariant_of-result
invariant_of-result c = record { holds = all_in c.args.table.now c.loop-k.firsts c.loop-k.k c.loop-k.invariant.1 (omega arith) }
