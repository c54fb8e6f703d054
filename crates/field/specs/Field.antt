-- A field: 16 bytes of a table, numbers low first.
use Rattle.std.specs.Prelude.{ℕ, ◌+◌, ◌/◌, Bool, not, ◌&&◌, ◌||◌, List, eqb, ℤ, length}
use Rattle.std.specs.Int.Bits.{bit_and}
use Rattle.std.specs.Int.{w8}
use Rattle.std.proofs.Common.{to_z, of_z}
use Rattle.lent.specs.Bytes.{byte_at, number_at}
use Rattle.lent.specs.Scan.{gather}
use Rattle.catalogue.specs.Catalogue.{class_of, array_flag, unsigned, signed, struct, padding, header_id, string}
use Rattle.field.specs.declared.FieldDef.{FieldDef}

-- the number that a byte holds in two's complement
abbrev pub signed_byte : ℕ → ℤ
signed_byte b = to_z w8 b

-- the byte that such a number stands in
abbrev pub byte_of : ℤ → ℕ
byte_of z = of_z w8 z

-- the field whose bytes begin at `at`
unfoldable pub field_at : List ℕ → ℕ → FieldDef
field_at t at =
    record {
      field_id = number_at t at 2;
      offset = number_at t (at + 2) 2;
      size = number_at t (at + 4) 2;
      type_id = byte_at t (at + 6);
      flags = byte_at t (at + 7);
      def_index = number_at t (at + 8) 2;
      scale = signed_byte (byte_at t (at + 10));
      reserved = number_at t (at + 11) 5;
    }

-- the fields of a table; bytes after the last whole field are none of them
abbrev pub fields_of : List ℕ → List FieldDef
fields_of t = gather (field_at t) 16 0 (length t / 16)

-- where a field ends
abbrev pub end_of : FieldDef → ℕ
end_of f = f.offset + f.size

abbrev pub is_array : List ℕ → FieldDef → Bool
is_array cat f = not (eqb (bit_and f.flags (array_flag cat)) 0)

abbrev pub is_integer : List ℕ → FieldDef → Bool
is_integer cat f = eqb (class_of cat f.type_id) unsigned || eqb (class_of cat f.type_id) signed

-- a signed or unsigned field that is no array
abbrev pub is_plain_integer : List ℕ → FieldDef → Bool
is_plain_integer cat f = is_integer cat f && not (is_array cat f)

abbrev pub is_struct : List ℕ → FieldDef → Bool
is_struct cat f = eqb (class_of cat f.type_id) struct

abbrev pub is_padding : List ℕ → FieldDef → Bool
is_padding cat f = eqb (class_of cat f.type_id) padding

-- neither padding nor the header
abbrev pub counts : List ℕ → FieldDef → Bool
counts cat f = not (is_padding cat f) && not (eqb f.field_id (header_id cat))

abbrev pub is_string : List ℕ → FieldDef → Bool
is_string cat f = eqb (class_of cat f.type_id) string

abbrev pub is_signed : List ℕ → FieldDef → Bool
is_signed cat f = eqb (class_of cat f.type_id) signed
