use Prim.Native.Nat.{◌*◌, ◌+◌, ◌-◌}
use Rattle.plan_match.proofs.Parted.{head-most, stood-some, stood-none, text-goes, text-stops, text-unlike}
use Rattle.plan_text.proofs.Whole.{body-wide, text-length}
use Rattle.plan_text.specs.Writing.{text_in}
use Rattle.slot.specs.Slot.{count_in, header_in, size_in}
use lib.ListN.{length}
use Rattle.plan_text.specs.Held.{head_in}
use mathlib.Core.Bool.{true, false}
use mathlib.Core.Path.{◌∙◌, ◌≡◌, sym, refl}
use native.Mathlib.Omega.{arith}
use Rattle.plan_match.proofs.is_text.Goals as goal

pub of_text-requires : goal.of_text-requires
of_text-requires c = c.requires

pub returns-then-text-of_text : goal.returns-then-text-of_text
returns-then-text-of_text c = text-unlike c.args.slot.now c.args.text.now c.of_text.result c.of_text.ensures.0 c.if-text-of_text.true

pub head_stands-requires : goal.head_stands-requires
head_stands-requires c = c.requires.long

pub returns-in_default : goal.returns-in_default
returns-in_default c =
    let l : length c.args.text.now ≡ length (text_in c.args.slot.now) = c.if-text-of_text.false ∙ c.of_text.ensures.0 in
    text-stops c.args.slot.now c.args.text.now c.requires l false _ (sym (stood-none (head_in c.args.slot.now) c.args.text.now 0 c.in_default.ensures)) refl refl

pub overflow_sub-n : goal.overflow_sub-n
overflow_sub-n c = let h = c.requires in omega arith

pub body_stands-requires : goal.body_stands-requires
body_stands-requires c = let h = c.requires in
    let t = text-length c.args.slot.now h in
    let b = body-wide c.args.slot.now h in
    let n : c.number_at.result - c.number_at-2.result ≡ size_in c.args.slot.now - header_in c.args.slot.now = omega arith in
    let f = stood-some (head_in c.args.slot.now) c.args.text.now 0 c.in-Some.ensures in
    let w = f.1 in
    (h.long, omega arith, omega arith)

pub returns-then-not-body_stands : goal.returns-then-not-body_stands
returns-then-not-body_stands c = let h = c.requires in
    let n : c.number_at.result - c.number_at-2.result ≡ size_in c.args.slot.now - header_in c.args.slot.now = omega arith in
    let l : length c.args.text.now ≡ length (text_in c.args.slot.now) = c.if-text-of_text.false ∙ c.of_text.ensures.0 in
    let f = stood-some (head_in c.args.slot.now) c.args.text.now 0 c.in-Some.ensures in
    text-stops c.args.slot.now c.args.text.now h l true c.body_stands.result (sym f.0) (rw (n, f.1) at c.body_stands.ensures) c.if-not-body_stands.true

pub overflow_add-at : goal.overflow_add-at
overflow_add-at c = let h = c.requires in
    let m = head-most c.args.slot.now in
    let f = stood-some (head_in c.args.slot.now) c.args.text.now 0 c.in-Some.ensures in
    let w = f.1 in
    omega arith

pub overflow_add-at-2 : goal.overflow_add-at-2
overflow_add-at-2 c = let h = c.requires in
    let m = head-most c.args.slot.now in
    let f = stood-some (head_in c.args.slot.now) c.args.text.now 0 c.in-Some.ensures in
    let w = f.1 in
    omega arith

pub steps_stand-requires : goal.steps_stand-requires
steps_stand-requires c = let h = c.requires in
    let t = text-length c.args.slot.now h in
    let b = body-wide c.args.slot.now h in
    let n : c.number_at.result - c.number_at-2.result ≡ size_in c.args.slot.now - header_in c.args.slot.now = omega arith in
    let k : c.number_at-3.result ≡ count_in c.args.slot.now = omega arith in
    let l : length c.args.text.now ≡ length (text_in c.args.slot.now) = c.if-text-of_text.false ∙ c.of_text.ensures.0 in
    let f = stood-some (head_in c.args.slot.now) c.args.text.now 0 c.in-Some.ensures in
    let w = f.1 in
    (omega arith, rw k (omega arith))

pub returns : goal.returns
returns c = let h = c.requires in
    let n : c.number_at.result - c.number_at-2.result ≡ size_in c.args.slot.now - header_in c.args.slot.now = omega arith in
    let k : c.number_at-3.result ≡ count_in c.args.slot.now = omega arith in
    let l : length c.args.text.now ≡ length (text_in c.args.slot.now) = c.if-text-of_text.false ∙ c.of_text.ensures.0 in
    let f = stood-some (head_in c.args.slot.now) c.args.text.now 0 c.in-Some.ensures in
    let w = f.1 in
    text-goes c.args.slot.now c.args.text.now h l true c.body_stands.result c.steps_stand.result ((c.in-Some.at + 6) + 2 * (c.number_at.result - c.number_at-2.result)) (sym f.0) (rw (n, f.1) at c.body_stands.ensures) c.if-not-body_stands.false (omega arith) (rw k at c.steps_stand.ensures)
