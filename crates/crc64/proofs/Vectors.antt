-- Sums known beforehand, by computation: of nothing, of the byte that clears the start's low eight bits, and Avro's own of the text "null" in its quotes. Assumes nothing.
use Rattle.std.proofs.Common.{◌≡◌, [], ◌∷◌, refl}
use Rattle.lent.specs.Scan.{gather}
use Rattle.crc64.specs.Avro.{negated, turn, turns, fp_table, print_byte, print_from, fingerprint}

pub of-nothing : fingerprint [] ≡ 0xC15D213AA4D7A795
unfolding fingerprint print_from
of-nothing = refl

pub of-cleared : fingerprint (0x95 ∷ []) ≡ 0x00C15D213AA4D7A7
unfolding fingerprint print_from print_byte fp_table gather turns turn negated
of-cleared = refl

pub of-null : fingerprint (0x22 ∷ 0x6E ∷ 0x75 ∷ 0x6C ∷ 0x6C ∷ 0x22 ∷ []) ≡ 0x63DD24E7CC258F8A
unfolding fingerprint print_from print_byte fp_table gather turns turn negated
of-null = refl
