use Rattle.decimal.proofs.Numbers.{head_at}
use Rattle.decimal.proofs.first.Goals as goal

pub returns : goal.returns
returns c = rw c.byte_at.ensures (head_at c.args.text.now c.args.at)
