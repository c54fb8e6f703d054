use Rattle.crc64.proofs.Agree.{agree}
use Rattle.crc64.specs.Sum.{bytes_step}
use Rattle.std.proofs.Common.{ℕ, List, sym, ap, ◌∙◌, arith}
use Rattle.crc64.proofs.sum.Goals as goal

pub returns : goal.returns
returns c = let bs : List ℕ = c.args.bytes.now in
    c.finish.ensures
    ∙ c.with_bytes.ensures
    ∙ ap (λ (fp : ℕ). bytes_step fp bs) c.new.ensures
    ∙ sym (agree bs (λ i. omega (arith, c.type_inv.bytes i)))
