-- The results of two i32 fit an i64.
use mathlib.Core.Bool.{Bool, true, false, cond}
use Prim.Native.Nat.{ℕ, zero, suc, ◌+◌, ◌*◌, ◌-◌, ◌^◌, ◌≤◌, ◌<◌, zero-le}
use native.Mathlib.Nat.{le_trans, le_refl, mul-le-mul}
use native.Mathlib.Omega.{arith}
use lib.Dec.{ltb}
use lib.IntN.{ℤ, pos, negsuc, neg_ℤ, sub_ℕ, ◌+ℤ◌, ◌-ℤ◌, ◌*ℤ◌}
use lib.Signed.{mag}
use mir.Syntax.{w32, w64}
use mir.Val.{SFits}

-- ── Results of 64 bits ──

sub_mag : (a b m : ℕ) → a < m → b ≤ m → mag (sub_ℕ a b) < m
sub_mag a b m p q = by (ltb a b)
  where
    by : (t : Bool) → mag (cond t (negsuc (b - suc a)) (pos (a - b))) < m
    by true = omega arith
    by false = omega arith

neg_mag : (z : ℤ) → mag (neg_ℤ z) ≤ suc (mag z)
neg_mag (pos zero) = zero-le
neg_mag (pos (suc n)) = omega arith
neg_mag (negsuc n) = le_refl (suc n)

sum_mag : (x y : ℤ) → mag x < 2 ^ 31 → mag y ≤ 2 ^ 31 → mag (x +ℤ y) < 2 ^ 63
sum_mag (pos a) (pos b) p q = omega arith
sum_mag (pos a) (negsuc b) p q = sub_mag a (suc b) (2 ^ 63) (omega arith) (omega arith)
sum_mag (negsuc a) (pos b) p q = sub_mag b (suc a) (2 ^ 63) (omega arith) (omega arith)
sum_mag (negsuc a) (negsuc b) p q = omega arith

times : (a b : ℕ) → a ≤ 2 ^ 31 → b ≤ 2 ^ 31 → a * b < 2 ^ 62 + 1
times a b p q = omega (arith, mul-le-mul p q)

product_mag : (x y : ℤ) → mag x < 2 ^ 31 → mag y < 2 ^ 31 → mag (x *ℤ y) < 2 ^ 63
product_mag (pos a) (pos b) p q = omega (arith, times a b (omega arith) (omega arith))
product_mag (pos a) (negsuc b) p q = omega (arith, neg_mag (pos (a * suc b)), times a (suc b) (omega arith) (omega arith))
product_mag (negsuc a) (pos b) p q = omega (arith, neg_mag (pos (suc a * b)), times (suc a) b (omega arith) (omega arith))
product_mag (negsuc a) (negsuc b) p q = omega (arith, times (suc a) (suc b) (omega arith) (omega arith))

module _ {x y : ℤ} (f : SFits w32 x) (g : SFits w32 y) where
  pub sum_fits : SFits w64 (x +ℤ y)
  sum_fits = record { sfits = sum_mag x y f.sfits (omega (arith, g.sfits)) }

  pub difference_fits : SFits w64 (x -ℤ y)
  difference_fits = record { sfits = sum_mag x (neg_ℤ y) f.sfits (le_trans (neg_mag y) g.sfits) }

  pub product_fits : SFits w64 (x *ℤ y)
  product_fits = record { sfits = product_mag x y f.sfits g.sfits }
