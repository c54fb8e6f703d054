-- A byte and a number of two bytes go in as runs of bytes, as dbn hashes them. Assumes nothing.
use Rattle.std.specs.Prelude.{◌≡◌, ℕ, ◌/◌, ◌%◌, [], ◌∷◌, refl}
use Rattle.crc64.specs.Sum.{byte_step, u16_step, bytes_step}

pub one_byte : (fp b : ℕ) → byte_step fp b ≡ bytes_step fp (b ∷ [])
unfolding bytes_step
one_byte fp b = refl

pub low-high : (fp v : ℕ) → u16_step fp v ≡ bytes_step fp (v % 256 ∷ v / 256 ∷ [])
unfolding u16_step bytes_step
low-high fp v = refl
