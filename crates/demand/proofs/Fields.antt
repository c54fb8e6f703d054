-- Demand 3, field by field: at each target field that counts stands its carried value, or its default. Assumes nothing.
use Prim.Native.Nat.{ℕ, ◌+◌, ◌-◌, ◌≤◌, ◌<◌}
use native.Mathlib.Omega.{arith}
use mathlib.Core.Path.{◌≡◌, sym, ap, ◌∙◌}
use mathlib.Core.Bool.{Bool, true, not, ◌&&◌, ◌||◌}
use mathlib.Core.List.{List, ◌++◌, Memᴰ}
use borrow.Author.Tests.{leb-true, le-leb}
use lib.Dec.{leb, ltb, eqb}
use lib.ListN.{length, take, drop, length-drop, length-append, get_or-append}
use lib.Seq.{length-take-le, get_or-take, get_or-drop, get_or-append-add}
use Rattle.limits.specs.Limits.{max_bytes}
use Rattle.lent.specs.Bytes.{byte_at, number_at, window}
use Rattle.lent.specs.Scan.{every}
use Rattle.lent.proofs.Scan.{both}
use Rattle.catalogue.specs.Catalogue.{is_width}
use Rattle.field.specs.Field.{fields_of, end_of, counts}
use Rattle.table_rules.proofs.Bytes.{Covers}
use Rattle.step.specs.Step.{copy, int, source_of, takes, gives, step_ok, widths_ok}
use Rattle.step.specs.declared.Step.{Step}
use Rattle.slot.specs.Plan.{Plan}
use Rattle.plan_rules.specs.Rule.{Want, wants, step_of}
use Rattle.std.specs.Prelude.{Some}
use Rattle.mapping.specs.Mapping.{integer_of, mapped, map_int}
use Rattle.interpreter.specs.Run.{carried, upgraded}
use Rattle.rule.specs.Body.{rule_byte, rule_body, value_of}
use Rattle.interpreter.proofs.Runs.{length-carried}
use Rattle.rule.proofs.Stores.{length-bytewise, byte-bytewise}
use Rattle.rule.proofs.Planned.{Within, step_of-within}
use Rattle.rule.proofs.Values.{every-at, rule-out, value-at, number-window, number-front}
use Rattle.demand.specs.Demand.{Planned, Recuts}
use Rattle.demand.proofs.Right.{admitted, step_of-ok}
use Rattle.demand.proofs.Ascending.{placed}
use Rattle.demand.proofs.Tables.{fields-are, all-admitted, all_placed}
use Rattle.demand.proofs.Integers.{mapped-number, mapped-integer}
use Rattle.demand.proofs.Upgraded.{targets-apart, upgraded-by-rule}

-- a body between a header and a tail, in a record with room
module _ (header size : ℕ) (dst body : List ℕ) (fits : header + length body ≡ size) (room : size ≤ length dst) where
  front : length (take header dst) ≡ header
  front = length-take-le header dst (omega arith)

  between : (i : ℕ) → header ≤ i → i < size → byte_at (take header dst ++ (body ++ drop size dst)) i ≡ byte_at body (i - header)
  between i low high =
      ap (λ (k : ℕ). byte_at (take header dst ++ (body ++ drop size dst)) k) (omega (arith, front))
      ∙ get_or-append-add (take header dst) (body ++ drop size dst) (i - header) 0
      ∙ get_or-append body (drop size dst) 0 (i - header) (omega arith)

  at_least : size ≤ length (take header dst ++ (body ++ drop size dst))
  at_least = omega (arith, length-append (take header dst) (body ++ drop size dst), length-append body (drop size dst), front)

module _ {cat src_table dst_table marks : List ℕ} {p : Plan} (made : Planned cat src_table dst_table marks p) {q : Plan} (recut : Recuts p q)
    (src dst : List ℕ) (long : p.src_base ≤ length src) (room : p.size ≤ length dst) where
  body : List ℕ
  body = rule_body cat (fields_of src_table) (wants cat marks dst_table) src p.header p.body

  body-fits : p.header + length body ≡ p.size
  unfolding body
  body-fits = omega (arith, length-bytewise (rule_byte cat (fields_of src_table) (wants cat marks dst_table) src) p.header p.body, made.body)

  long-enough : p.size ≤ length (upgraded q src dst)
  unfolding body
  long-enough = rw (upgraded-by-rule made recut src dst long room) (at_least p.header p.size dst body body-fits room)

  -- a byte behind the header: the rule's
  byte-by-rule : (i : ℕ) → p.header ≤ i → i < p.size
      → byte_at (upgraded q src dst) i ≡ rule_byte cat (fields_of src_table) (wants cat marks dst_table) src i (byte_at p.body (i - p.header))
  unfolding body
  byte-by-rule i low high =
      let rule = rule_byte cat (fields_of src_table) (wants cat marks dst_table) src in
      ap (λ (all : List ℕ). byte_at all i) (upgraded-by-rule made recut src dst long room)
      ∙ between p.header p.size dst body body-fits room i low high
      ∙ byte-bytewise rule p.header p.body (i - p.header) (omega (arith, made.body))
      ∙ ap (λ (k : ℕ). rule k (byte_at p.body (i - p.header))) (omega arith)

  -- one of no field that counts: the default's
  pub rest-by-default : (i : ℕ) → p.header ≤ i → i < p.size
      → ((w : Want) → Memᴰ w (wants cat marks dst_table) → counts cat w.def ≡ true → Covers w.def i → ⊥)
      → byte_at (upgraded q src dst) i ≡ byte_at p.body (i - p.header)
  rest-by-default i low high none-there =
      byte-by-rule i low high ∙ rule-out cat (fields_of src_table) (wants cat marks dst_table) src i (byte_at p.body (i - p.header)) none-there

  -- ---- a target field that counts

  module _ (w : Want) (one : Memᴰ w (wants cat marks dst_table)) (here : counts cat w.def ≡ true) where
    record Place : Type 0 where
      low : p.header ≤ w.def.offset
      high : end_of w.def ≤ p.size

    place : Place
    place =
        let all = ap (every _) (fields-are cat marks dst_table) ∙ all_placed cat p.header p.size (fields_of dst_table) made.after (omega (arith, made.size)) in
        let x = both (not (counts cat w.def) || leb p.header w.def.offset) (leb (end_of w.def) p.size) (every-at (placed cat p.header p.size) one all) in
        record { low = leb-true _ _ (rw here at x.0); high = leb-true _ _ x.1 }

    default : List ℕ
    default = window p.body (w.def.offset - p.header) w.def.size

    default-length : length default ≡ w.def.size
    unfolding default
    default-length =
        length-take-le w.def.size (drop (w.def.offset - p.header) p.body)
        (omega (arith, length-drop (w.def.offset - p.header) p.body, made.body, place.low, place.high))

    each : (j : ℕ) → j < w.def.size
        → byte_at (upgraded q src dst) (w.def.offset + j) ≡ rule_byte cat (fields_of src_table) (wants cat marks dst_table) src (w.def.offset + j) (byte_at default j)
    unfolding default
    each j h =
        let f = w.def in
        let b : byte_at default j ≡ byte_at p.body (f.offset + j - p.header) =
        get_or-take f.size (drop (f.offset - p.header) p.body) j 0 h ∙ get_or-drop (f.offset - p.header) p.body j 0 ∙ ap (byte_at p.body) (omega (arith, place.low)) in
        byte-by-rule (f.offset + j) (omega (arith, place.low)) (omega (arith, place.high))
        ∙ ap (rule_byte cat (fields_of src_table) (wants cat marks dst_table) src (f.offset + j)) (sym b)

    -- its bytes in the upgraded record
    pub field-by-rule : window (upgraded q src dst) w.def.offset w.def.size
        ≡ value_of src (step_of cat (fields_of src_table) w) (window p.body (w.def.offset - p.header) w.def.size)
    unfolding default
    field-by-rule =
        value-at cat (fields_of src_table) (wants cat marks dst_table) w src (upgraded q src dst) default (targets-apart made) one (omega (arith, long-enough, place.high)) default-length each

    -- a field's own step that the record reaches: what it carries stands at the front of the field
    module _ (s : Step) (by : step_of cat (fields_of src_table) w ≡ Some s) (reached : source_of s + takes s ≤ length src) where
      value_there : window (upgraded q src dst) w.def.offset w.def.size ≡ carried src s.op ++ drop (gives s) default
      unfolding default
      value_there = field-by-rule ∙ rw (by, le-leb (source_of s + takes s) (length src) reached)

      fits : gives s ≤ w.def.size
      fits = let x : Within w.def s = rw by at (step_of-within cat (fields_of src_table) w) in x.fits

      number-there : number_at (upgraded q src dst) w.def.offset (gives s) ≡ number_at (carried src s.op) 0 (gives s)
      number-there =
          sym (number-window (upgraded q src dst) w.def.offset w.def.size (gives s) fits)
          ∙ ap (λ (all : List ℕ). number_at all 0 (gives s)) value_there
          ∙ number-front (carried src s.op) (drop (gives s) default) 0 (gives s) (omega (arith, length-carried src s reached))

    -- a copy: the field holds the number that the source field holds
    pub copied-number : (source target n : ℕ) → step_of cat (fields_of src_table) w ≡ Some (copy source target n) → source + n ≤ length src
        → number_at (upgraded q src dst) w.def.offset n ≡ number_at src source n
    copied-number source target n by reached = number-there (copy source target n) by reached ∙ number-window src source n n (omega arith)

    -- an integer step: it holds the integer that the mapping gives of the one that the source field holds
    module _ (source target from to : ℕ) (signed marked : Bool) (by : step_of cat (fields_of src_table) w ≡ Some (int source target from to signed marked)) (reached : source + from ≤ length src) where
      width : is_width to ≡ true
      width =
          let all = ap (every _) (fields-are cat marks dst_table) ∙ all-admitted cat dst_table made.target in
          let ok : step_ok (int source target from to signed marked) ≡ true =
          rw by at (step_of-ok cat made.catalogue (fields_of src_table) w (all-admitted cat src_table made.source) (every-at (admitted cat) one all)) in
          let a = (both (widths_ok from to marked) (leb (source + from) max_bytes) ok).0 in
          let b = (both (is_width from) (is_width to && (not (eqb from to) && (marked || ltb from to))) a).1 in
          (both (is_width to) (not (eqb from to) && (marked || ltb from to)) b).0

      pub mapped-number-there : number_at (upgraded q src dst) w.def.offset to ≡ map_int from to signed marked (number_at src source from)
      mapped-number-there =
          number-there (int source target from to signed marked) by reached ∙ mapped-number from to signed marked width (number_at src source from)

      pub integer-by-rule : integer_of signed to (number_at (upgraded q src dst) w.def.offset to) ≡ mapped from to signed marked (integer_of signed from (number_at src source from))
      integer-by-rule = ap (integer_of signed to) mapped-number-there ∙ mapped-integer from to signed marked width (number_at src source from)
