-- What stands in a room: the block of a side, and how many of its records and structs are whole.
use Rattle.std.specs.Prelude.{ℕ, ◌≡◌}
use Rattle.field.specs.declared.Holder.{Holder}
use Rattle.field.specs.declared.Holder.TheVariants.{Record, Struct}
use Rattle.owl_blocks.specs.declared.pack.Block.{Block}
use Rattle.owl_blocks.specs.declared.room.Room.{Room}
use Rattle.owl_blocks.specs.declared.room.Side.{Side}
use Rattle.owl_blocks.specs.declared.room.Side.TheVariants.{Source, Target}

abbrev pub whole_of : Holder → Block → ℕ
whole_of Record block = block.records
whole_of Struct block = block.structs

-- nothing more is whole, and the block ends where it did
abbrev pub IsAsWhole : Block → Block → Type 0
IsAsWhole old new = (new.end ≡ old.end) × (new.records ≡ old.records) × (new.structs ≡ old.structs)

abbrev pub block_of : Side → Room → Block
block_of Source room = room.source
block_of Target room = room.target
