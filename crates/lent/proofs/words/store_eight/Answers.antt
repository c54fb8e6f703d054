use Rattle.lent.proofs.Stored.{store-add}
use Rattle.lent.proofs.words.store_eight.Goals as goal

pub returns : goal.returns
returns c = rw (c.store_four-2.ensures, c.store_four.ensures) (store-add c.args.d.now c.args.at 4 4 c.args.v)
