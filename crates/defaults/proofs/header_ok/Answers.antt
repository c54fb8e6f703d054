use Rattle.defaults.specs.Defaults.{header_ok}
use Rattle.defaults.proofs.header_ok.Goals as goal

pub returns-then-header-size : goal.returns-then-header-size
unfolding header_ok
returns-then-header-size c = rw c.if-header-size.true c.all_start_after.ensures

pub returns-else-header-size : goal.returns-else-header-size
unfolding header_ok
returns-else-header-size c = rw c.if-header-size.false
