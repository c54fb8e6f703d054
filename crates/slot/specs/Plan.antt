-- An upgrade plan, in whatever form it is handed over: its numbers, its body and its steps; and the rules it keeps.
use Rattle.std.specs.Prelude.{ℕ, ◌+◌, Bool, ◌&&◌, List, leb, ltb, eqb, length}
use Rattle.limits.specs.Limits.{max_bytes, max_header, max_steps}
use Rattle.lent.specs.Scan.{every}
use Rattle.step.specs.Step.{steps_ok}
use Rattle.step.specs.declared.Step.{Step}

pub record Plan : Type 0 where
  pub src_rtype : ℕ
  pub rtype : ℕ
  pub src_base : ℕ
  pub header : ℕ
  pub base : ℕ
  pub size : ℕ
  pub body : List ℕ
  pub steps : List Step

-- rtypes of two bytes
abbrev pub rtypes_ok : Plan → Bool
rtypes_ok p = ltb p.src_rtype 65536 && ltb p.rtype 65536

-- the source base and the record size within a record; the header within its limit and the record; the target base within the record
abbrev pub sizes_ok : Plan → Bool
sizes_ok p =
    (leb p.src_base max_bytes && leb p.size max_bytes)
    && ((leb p.header max_header && leb p.header p.size) && leb p.base p.size)

abbrev pub is_byte : ℕ → Bool
is_byte b = ltb b 256

-- one byte of any value for each from the header's length to the record size
abbrev pub body_ok : Plan → Bool
body_ok p = eqb (p.header + length p.body) p.size && every is_byte p.body

-- every rule that a plan keeps
unfoldable pub plan_ok : Plan → Bool
plan_ok p = (rtypes_ok p && sizes_ok p) && (body_ok p && (leb (length p.steps) max_steps && steps_ok p.header p.size p.steps))
