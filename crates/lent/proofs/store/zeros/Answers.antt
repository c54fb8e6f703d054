use Prim.Native.Nat.{◌+◌, ◌-◌}
use mathlib.Core.Path.{◌≡◌, sym, ◌∙◌}
use native.Mathlib.Omega.{arith}
use lib.ListN.{length, take, drop, replicate, length-take, length-drop, length-replicate}
use Rattle.std.proofs.lemmas.List.{append_assoc}
use Rattle.std.proofs.lemmas.List.{drop-drop}
use Rattle.std.proofs.lemmas.List.Edits.{sets-eq}
use Rattle.lent.proofs.store.zeros.Goals as goal

pub returns : goal.returns
returns c =
    let a = c.args in
    let d = a.d.now in
    let wide : (a.at + a.n) - a.at ≡ a.n = omega arith in
    let inside : length (take ((a.at + a.n) - a.at) (drop a.at d)) ≡ a.n = rw (wide, length-take a.n (drop a.at d), length-drop a.at d) (omega arith) in
    let filled : c.fill.new.self ≡ replicate a.n 0 = rw inside at (c.fill.ensures.after (λ y e. e)) in
    let stored = rw length-replicate at (sets-eq (replicate a.n 0) d a.at (rw length-replicate (omega arith))) in
    rw (filled, wide, drop-drop a.n a.at d) (sym (stored ∙ append_assoc (take a.at d) (replicate a.n 0) (drop (a.at + a.n) d)))
