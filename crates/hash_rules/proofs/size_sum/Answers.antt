use Prim.Native.Nat.{◌%◌, ◌*◌, ◌+◌, ◌/◌, ℕ}
use Rattle.crc64.specs.Sum.{bytes_step}
use Rattle.lent.proofs.Bytes.{bytes-add}
use Rattle.lent.specs.Bytes.{bytes_of}
use mathlib.Core.Path.{◌∙◌, ◌≡◌, ap, sym}
use native.Mathlib.Omega.{arith}
use Rattle.hash_rules.proofs.size_sum.Goals as goal

pub returns : goal.returns
returns c = let size : ℕ = c.args.size in
    let split : size ≡ size % 65536 + 65536 * (size / 65536) = omega arith in
    c.step_number.ensures ∙ ap (bytes_step c.args.start) (sym (ap (bytes_of 2) split ∙ bytes-add 2 0 (size % 65536) (size / 65536) (omega arith)))
