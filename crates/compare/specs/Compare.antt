-- Verdict on a stream's record against a compiled layout. The layout of the one is called s, that of the other c.
use Rattle.std.specs.Prelude.{ℕ, Bool, cond, ◌&&◌, ◌||◌, List, leb, eqb}
use Rattle.lent.specs.Scan.{every, some}
use Rattle.field.specs.Field.{fields_of, is_padding}
use Rattle.field.specs.declared.FieldDef.{FieldDef}
use Rattle.layout.specs.Layout.{RecordLayout, record_at}
use Rattle.layout.specs.Find.{first_of, at_place}
use Rattle.equal_rules.specs.Equal.{field_eq}
use Rattle.compare.specs.declared.answer.Verdict.{Verdict}
use Rattle.compare.specs.declared.answer.Verdict.TheVariants.{Compiled, Dynamic}

-- the compiled field `want` has an equal among the stream's, or needs none
abbrev pub met : List ℕ → List ℕ → List FieldDef → List ℕ → FieldDef → Bool
met cat s haves c want = is_padding cat want || some (λ have. field_eq cat s have c want) haves

unfoldable pub base_compatible : List ℕ → List ℕ → RecordLayout → List ℕ → RecordLayout → Bool
base_compatible cat s r c q = leb q.base r.base && every (met cat s (fields_of r.table) c) (fields_of q.table)

-- the stored hashes, else the bases
abbrev pub matches : List ℕ → List ℕ → RecordLayout → List ℕ → RecordLayout → Verdict
matches cat s r c q = cond (eqb r.hash q.hash || base_compatible cat s r c q) Compiled Dynamic

-- against the first compiled record of the same rtype
unfoldable pub verdict_of : List ℕ → List ℕ → ℕ → List ℕ → Verdict
verdict_of cat s h c = at_place (first_of c (record_at s h).rtype) Dynamic (λ g. matches cat s (record_at s h) c (record_at c g))
