-- A catalogue in 262 bytes. For each of 256 type ids, from 0 on, a byte: sixteen times the id's class, and its width.
-- Then the array flag at 256, the extension flag at 257, the header's field id at 258 and the padding field id at 260, two bytes each.
use Rattle.std.specs.Prelude.{ℕ, zero, suc, ◌+◌, ◌*◌, ◌/◌, ◌%◌, Bool, cond, not, ◌&&◌, ◌||◌, List, leb, ltb, eqb, length}
use Rattle.lent.specs.Bytes.{byte_at, number_at}
use Rattle.lent.specs.Scan.{gather, every, tally}

-- ---- the classes

abbrev pub other : ℕ
other = 0

abbrev pub unsigned : ℕ
unsigned = 1

abbrev pub signed : ℕ
signed = 2

abbrev pub decimal : ℕ
decimal = 3

abbrev pub string : ℕ
string = 4

abbrev pub struct : ℕ
struct = 5

abbrev pub padding : ℕ
padding = 6

-- ---- what stands where

abbrev pub class_of : List ℕ → ℕ → ℕ
class_of c id = byte_at c id / 16

abbrev pub width_of : List ℕ → ℕ → ℕ
width_of c id = byte_at c id % 16

abbrev pub kinds : List ℕ → List ℕ
kinds c = gather (byte_at c) 1 0 256

abbrev pub array_flag : List ℕ → ℕ
array_flag c = byte_at c 256

abbrev pub extension_flag : List ℕ → ℕ
extension_flag c = byte_at c 257

abbrev pub header_id : List ℕ → ℕ
header_id c = number_at c 258 2

abbrev pub padding_id : List ℕ → ℕ
padding_id c = number_at c 260 2

-- the first of n ids from `id` on that is of a class, else the one after them
unfoldable pub first_of : List ℕ → ℕ → ℕ → ℕ → ℕ
first_of c class id zero = id
first_of c class id (suc n) = cond (eqb (class_of c id) class) id (first_of c class (id + 1) n)

-- the id of a class that has one, as struct and padding do in a valid catalogue; 255 where no id before it is
abbrev pub id_of : List ℕ → ℕ → ℕ
id_of c class = first_of c class 0 255

-- ---- refusal 1

abbrev pub is_width : ℕ → Bool
is_width n = eqb n 1 || (eqb n 2 || (eqb n 4 || eqb n 8))

abbrev pub is_bit : ℕ → Bool
is_bit b = (eqb b 1 || (eqb b 2 || (eqb b 4 || eqb b 8))) || (eqb b 16 || (eqb b 32 || (eqb b 64 || eqb b 128)))

-- a class and a width that go together: 1, 2, 4, 8 with other, unsigned, signed and decimal, 0 with other, string, struct and padding
abbrev pub kind_ok : ℕ → Bool
kind_ok k =
    (leb (k / 16) decimal && is_width (k % 16))
    || (eqb (k % 16) 0 && (eqb (k / 16) other || (ltb decimal (k / 16) && leb (k / 16) padding)))

-- how many ids have a kind from low to high, how many are of a class, and how many of a class and a width
abbrev pub within : ℕ → ℕ → ℕ → Bool
within low high k = leb low k && leb k high

abbrev pub count : List ℕ → ℕ → ℕ → ℕ
count c low high = tally (within low high) (kinds c)

abbrev pub count_class : List ℕ → ℕ → ℕ
count_class c class = count c (16 * class) (16 * class + 15)

abbrev pub count_kind : List ℕ → ℕ → ℕ → ℕ
count_kind c class width = count c (16 * class + width) (16 * class + width)

-- exactly one id of the class for each width but 0
abbrev pub one_each : List ℕ → ℕ → Bool
one_each c class =
    eqb (count_kind c class 1) 1 && (eqb (count_kind c class 2) 1 && (eqb (count_kind c class 4) 1 && eqb (count_kind c class 8) 1))

-- exactly one decimal id, two string ids, one struct id, one padding id
abbrev pub others_ok : List ℕ → Bool
others_ok c =
    eqb (count_class c decimal) 1 && (eqb (count_class c string) 2 && (eqb (count_class c struct) 1 && eqb (count_class c padding) 1))

-- two different single bits
abbrev pub flags_ok : ℕ → ℕ → Bool
flags_ok array extension = is_bit array && (is_bit extension && not (eqb array extension))

unfoldable pub catalogue_ok : List ℕ → Bool
catalogue_ok c =
    eqb (length c) 262
    && (flags_ok (array_flag c) (extension_flag c)
    && (every kind_ok (kinds c) && (one_each c unsigned && (one_each c signed && others_ok c))))
