use Rattle.crc64.specs.Sum.{byte_step}
use Rattle.std.proofs.Common.{refl}
use Rattle.crc64.proofs.bytewise.begun.Goals as goal

pub returns : goal.returns
unfolding byte_step
returns c = refl
