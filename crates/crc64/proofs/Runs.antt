-- Runs of bytes join. Assumes nothing.
use Rattle.std.proofs.Common.{◌≡◌, ℕ, List, [], ◌∷◌, ◌++◌, refl}
use Rattle.crc64.specs.Sum.{byte_step, bytes_step}

pub joined : (fp : ℕ) (cs bs : List ℕ) → bytes_step fp (cs ++ bs) ≡ bytes_step (bytes_step fp cs) bs
unfolding bytes_step
joined fp [] bs = refl
joined fp (c ∷ cs) bs = joined (byte_step fp c) cs bs
