-- A scale and its byte: a byte of 128 or more, less 256, is its signed reading; and back. Assumes nothing.
use mathlib.Core.Path.{◌≡◌, refl, sym, ◌∙◌}
use mathlib.Core.Bool.{true, false, false≢true}
use Prim.Native.Nat.{ℕ, suc, ◌-◌, ◌≤◌, ◌<◌}
use native.Mathlib.Nat.{not-suc-le-zero}
use native.Mathlib.Omega.{arith}
use borrow.Author.Tests.{lt-ltb, le-ltb, ltb-true}
use lib.IntN.{ℤ, pos, negsuc, ◌+ℤ◌, ◌-ℤ◌, nat_abs}
use mir.Syntax.{w8, w16}
use lib.Dec.{T}
use lib.Signed.{non_neg, lt_z}
use mir.Val.{Fits, SFits, to_z, of_z}
use mir.ValLaws.{to_z-of_z, to_z_pos}

module _ (b : ℕ) (h : b < 256) (low : 128 ≤ b) where
  less : to_z w16 b -ℤ pos 256 ≡ negsuc (256 - suc b)
  less =
      let e : to_z w16 b ≡ pos b = to_z_pos w16 b (omega arith) in
      rw (e, lt-ltb b 256 h)

  pub less-fits : SFits w16 (to_z w16 b -ℤ pos 256)
  less-fits = rw less (record { sfits = omega arith })

  back : to_z w16 (of_z w16 (to_z w16 b -ℤ pos 256)) ≡ negsuc (256 - suc b)
  back = to_z-of_z w16 (to_z w16 b -ℤ pos 256) less-fits ∙ less

  pub less-narrow : SFits w8 (to_z w16 (of_z w16 (to_z w16 b -ℤ pos 256)))
  less-narrow = rw back (record { sfits = omega arith })

  pub less-signed : to_z w8 (of_z w8 (to_z w16 (of_z w16 (to_z w16 b -ℤ pos 256)))) ≡ to_z w8 b
  less-signed = to_z-of_z w8 (to_z w16 (of_z w16 (to_z w16 b -ℤ pos 256))) less-narrow ∙ back ∙ rw (le-ltb b 128 low)

-- ---- and back: a scale's byte

module _ (z : ℤ) (f : SFits w8 z) where
  read : to_z w8 (of_z w8 z) ≡ z
  read = to_z-of_z w8 z f

  wider : SFits w16 z
  wider = record { sfits = omega (arith, f.sfits) }

  pub scale-wider : SFits w16 (to_z w8 (of_z w8 z))
  scale-wider = rw read wider

-- 256 more than a number below zero
above : (z : ℤ) → SFits w8 z → lt_z z (pos 0) ≡ true → (z +ℤ pos 256 ≡ pos (of_z w8 z)) × (of_z w8 z < 256)
above (pos n) f e = absurd (not-suc-le-zero (ltb-true n 0 e))
above (negsuc n) f e =
    let h : n < 128 = f.sfits in
    (rw (le-ltb 256 (suc n) (omega arith)), omega arith)

module _ (z : ℤ) (f : SFits w8 z) (e : lt_z (to_z w8 (of_z w8 z)) (pos 0) ≡ true) where
  low : (z +ℤ pos 256 ≡ pos (of_z w8 z)) × (of_z w8 z < 256)
  low = above z f (rw (read z f) at e)

  more : to_z w16 (of_z w16 (to_z w8 (of_z w8 z))) +ℤ pos 256 ≡ pos (of_z w8 z)
  more = rw (read z f, to_z-of_z w16 z (wider z f)) low.0

  pub more-fits : SFits w16 (to_z w16 (of_z w16 (to_z w8 (of_z w8 z))) +ℤ pos 256)
  more-fits = rw more (record { sfits = omega (arith, low.1) })

  more-back : to_z w16 (of_z w16 (to_z w16 (of_z w16 (to_z w8 (of_z w8 z))) +ℤ pos 256)) ≡ pos (of_z w8 z)
  more-back = to_z-of_z w16 _ more-fits ∙ more

  pub more_byte : T (non_neg (to_z w16 (of_z w16 (to_z w16 (of_z w16 (to_z w8 (of_z w8 z))) +ℤ pos 256))))
      × Fits w8 (nat_abs (to_z w16 (of_z w16 (to_z w16 (of_z w16 (to_z w8 (of_z w8 z))) +ℤ pos 256))))
  more_byte = rw more-back (tt, record { fits = low.1 })

  pub more-is : nat_abs (to_z w16 (of_z w16 (to_z w16 (of_z w16 (to_z w8 (of_z w8 z))) +ℤ pos 256))) ≡ of_z w8 z
  more-is = rw more-back

same : (z : ℤ) → SFits w8 z → lt_z z (pos 0) ≡ false → T (non_neg z) × Fits w8 (nat_abs z) × (nat_abs z ≡ of_z w8 z)
same (pos n) f e = let h : n < 128 = f.sfits in (tt, record { fits = omega arith }, refl)
same (negsuc n) f e = absurd (false≢true (sym e))

module _ (z : ℤ) (f : SFits w8 z) (e : lt_z (to_z w8 (of_z w8 z)) (pos 0) ≡ false) where
  kept : T (non_neg z) × Fits w8 (nat_abs z) × (nat_abs z ≡ of_z w8 z)
  kept = same z f (rw (read z f) at e)

  pub same_byte : T (non_neg (to_z w8 (of_z w8 z))) × Fits w8 (nat_abs (to_z w8 (of_z w8 z)))
  same_byte = rw (read z f) (kept.0, kept.1)

  pub same-is : nat_abs (to_z w8 (of_z w8 z)) ≡ of_z w8 z
  same-is = rw (read z f) kept.2
