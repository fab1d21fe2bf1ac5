-- What a test on an i32 says of the number, and what a cast makes of it. The machine reads a parameter z back from its bits, as
-- to_z w32 (of_z w32 z).
use mathlib.Core.Path.{◌≡◌, refl, sym, ◌∙◌}
use mathlib.Core.Bool.{Bool, true, false}
use Prim.Native.Nat.{suc, ◌-◌, ◌^◌, ◌<◌}
use native.Mathlib.Omega.{arith}
use lib.Dec.{eqb}
use lib.IntN.{ℤ, pos, negsuc}
use lib.Signed.{mag, lt_z}
use mir.Syntax.{w32, w64}
use mir.Val.{SFits, of_z, to_z}
use mir.Facts.{to_z-of_z, sfits_widen}
use borrow.Author.Rules.{sfits_of}
use borrow.Author.Tests.{ltb-true, eq-eqb, ne_eqb, eqb-true, eqb-false}
use Rattle.semantics.specs.Order.{same_integer}
use Rattle.semantics.proofs.Tests.{false_true}

below_zero : (z : ℤ) → lt_z z (pos 0) ≡ true → z ≡ negsuc (mag z)
below_zero (pos n) e = absurd (omega (arith, ltb-true n 0 e))
below_zero (negsuc n) e = refl

from_zero : (z : ℤ) → lt_z z (pos 0) ≡ false → z ≡ pos (mag z)
from_zero (pos n) e = refl
from_zero (negsuc n) e = cc

over_zero : (z : ℤ) → lt_z (pos 0) z ≡ true → (z ≡ pos (mag z)) × (0 < mag z)
over_zero (pos n) e = (refl, ltb-true 0 n e)
over_zero (negsuc n) e = false_true e

-- an i32 that a call or a match gave
pub read_back : (z : ℤ) → mag z < 2 ^ 31 → to_z w32 (of_z w32 z) ≡ z
read_back z h = to_z-of_z {w = w32} (sfits_of h)

module _ {z : ℤ} (f : SFits w32 z) where
  -- `if z < 0`
  pub negative : lt_z (to_z w32 (of_z w32 z)) (pos 0) ≡ true → z ≡ negsuc (mag z)
  negative e = below_zero z (simp (to_z-of_z f) at e)

  pub natural : lt_z (to_z w32 (of_z w32 z)) (pos 0) ≡ false → z ≡ pos (mag z)
  natural e = from_zero z (simp (to_z-of_z f) at e)

  -- `if 0 < z`
  pub positive : lt_z (pos 0) (to_z w32 (of_z w32 z)) ≡ true → 0 < mag z
  positive e = (over_zero z (simp (to_z-of_z f) at e)).1

  -- `z as u32` where z is at least 0, and where it is above 0
  pub read_natural : lt_z (to_z w32 (of_z w32 z)) (pos 0) ≡ false → to_z w32 (of_z w32 z) ≡ pos (mag z)
  read_natural e = to_z-of_z f ∙ natural e

  pub read_positive : lt_z (pos 0) (to_z w32 (of_z w32 z)) ≡ true → to_z w32 (of_z w32 z) ≡ pos (mag z)
  read_positive e = to_z-of_z f ∙ (over_zero z (simp (to_z-of_z f) at e)).0

  -- `z as i64`
  pub read_wide : to_z w64 (of_z w64 z) ≡ z
  read_wide = to_z-of_z {w = w64} (sfits_widen {w = w32} tt f)

-- `x == y`: the machine compares the bits
pub same_bits : (x y : ℤ) → SFits w32 x → SFits w32 y → eqb (of_z w32 x) (of_z w32 y) ≡ same_integer x y
unfolding same_integer
same_bits (pos a) (pos b) f g = refl
same_bits (pos a) (negsuc b) f g = ne_eqb a (2 ^ 32 - suc b) (λ e. omega arith)
same_bits (negsuc a) (pos b) f g = ne_eqb (2 ^ 32 - suc a) b (λ e. omega arith)
same_bits (negsuc a) (negsuc b) f g = either (eqb a b) refl
  where
    either : (t : Bool) → eqb a b ≡ t → eqb (2 ^ 32 - suc a) (2 ^ 32 - suc b) ≡ eqb a b
    either true e = eq-eqb (2 ^ 32 - suc a) (2 ^ 32 - suc b) (omega (arith, eqb-true)) ∙ sym e
    either false e = ne_eqb (2 ^ 32 - suc a) (2 ^ 32 - suc b) (λ q. eqb-false a b e (omega arith)) ∙ sym e
