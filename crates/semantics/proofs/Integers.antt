-- The order of integers by its tests, and the values of a range: they are the integers within it, strictly rising.
-- Each law of the order goes by the signs; a range is counted up from its low end by `up`.
use mathlib.Core.Path.{◌≡◌, refl, sym, ap, ◌∙◌}
use mathlib.Core.Logic.{◌⊎◌, inl, inr}
use mathlib.Core.Bool.{Bool, true, false, cond}
use mathlib.Core.List.Memᴰ
use mathlib.Core.List.{List, [], ◌∷◌, Memᴰ}
use Prim.Native.Nat.{ℕ, zero, suc, ◌-◌, ◌<◌}
use native.Mathlib.Omega.{arith}
use borrow.Author.Tests.{ltb-true, ltb-false, leb-true, lt-ltb, le-leb}
use lib.Dec.{leb, ltb, T}
use lib.IntN.{ℤ, pos, negsuc, suc_ℤ, nat_abs, ◌+ℤ◌, ◌-ℤ◌, +ℤ_comm, -ℤ-+ℤ_cancel, suc_ℤ-+ℤ, +ℤ-suc_ℤ, +ℤ_idr}
use lib.Signed.{lt_z, le_z, non_neg, pos-nat_abs}
use Rattle.semantics.specs.Lists.{Every}
use Rattle.semantics.specs.Word.{Range, within}
use Rattle.semantics.specs.Order.{values_from, values_of_range}
use Rattle.semantics.proofs.Tests.{false_true, either, and_left, and_right, and_both, cond_true, cond_false, Every-of}

pub lt_z_trans : (x y z : ℤ) → lt_z x y ≡ true → lt_z y z ≡ true → lt_z x z ≡ true
lt_z_trans (pos a) (pos b) (pos c) p q = let h = ltb-true a b p in let k = ltb-true b c q in lt-ltb a c (omega arith)
lt_z_trans (pos a) (pos b) (negsuc c) p q = q
lt_z_trans (pos a) (negsuc b) z p q = false_true p
lt_z_trans (negsuc a) (pos b) (pos c) p q = refl
lt_z_trans (negsuc a) (pos b) (negsuc c) p q = false_true q
lt_z_trans (negsuc a) (negsuc b) (pos c) p q = refl
lt_z_trans (negsuc a) (negsuc b) (negsuc c) p q = let h = ltb-true b a p in let k = ltb-true c b q in lt-ltb c a (omega arith)

pub lt_z_irrefl : (x : ℤ) → lt_z x x ≡ true → ⊥
lt_z_irrefl (pos a) p = let h = ltb-true a a p in omega arith
lt_z_irrefl (negsuc a) p = let h = ltb-true a a p in omega arith

naturals : (a b : ℕ) → (a < b) ⊎ ((a ≡ b) ⊎ (b < a))
naturals a b = by (either (ltb a b)) (either (ltb b a))
  where
    by : (ltb a b ≡ true) ⊎ (ltb a b ≡ false) → (ltb b a ≡ true) ⊎ (ltb b a ≡ false) → (a < b) ⊎ ((a ≡ b) ⊎ (b < a))
    by (inl p) q = inl (ltb-true a b p)
    by (inr p) (inl q) = inr (inr (ltb-true b a q))
    by (inr p) (inr q) = let h = ltb-false a b p in let k = ltb-false b a q in inr (inl (omega arith))

-- one of two integers is less, or they are the same
pub lt_z-total : (x y : ℤ) → (lt_z x y ≡ true) ⊎ ((x ≡ y) ⊎ (lt_z y x ≡ true))
lt_z-total (pos a) (pos b) = by (naturals a b)
  where
    by : (a < b) ⊎ ((a ≡ b) ⊎ (b < a)) → (ltb a b ≡ true) ⊎ ((pos a ≡ pos b) ⊎ (ltb b a ≡ true))
    by (inl h) = inl (lt-ltb a b h)
    by (inr (inl h)) = inr (inl (ap pos h))
    by (inr (inr h)) = inr (inr (lt-ltb b a h))
lt_z-total (pos a) (negsuc b) = inr (inr refl)
lt_z-total (negsuc a) (pos b) = inl refl
lt_z-total (negsuc a) (negsuc b) = by (naturals b a)
  where
    by : (b < a) ⊎ ((b ≡ a) ⊎ (a < b)) → (ltb b a ≡ true) ⊎ ((negsuc a ≡ negsuc b) ⊎ (ltb a b ≡ true))
    by (inl h) = inl (lt-ltb b a h)
    by (inr (inl h)) = inr (inl (ap negsuc (sym h)))
    by (inr (inr h)) = inr (inr (lt-ltb a b h))

pub le_z_refl : (x : ℤ) → le_z x x ≡ true
le_z_refl (pos a) = le-leb a a (omega arith)
le_z_refl (negsuc a) = le-leb a a (omega arith)

pub le_z_trans : (x y z : ℤ) → le_z x y ≡ true → le_z y z ≡ true → le_z x z ≡ true
le_z_trans (pos a) (pos b) (pos c) p q = let h = leb-true a b p in let k = leb-true b c q in le-leb a c (omega arith)
le_z_trans (pos a) (pos b) (negsuc c) p q = q
le_z_trans (pos a) (negsuc b) z p q = false_true p
le_z_trans (negsuc a) (pos b) (pos c) p q = refl
le_z_trans (negsuc a) (pos b) (negsuc c) p q = false_true q
le_z_trans (negsuc a) (negsuc b) (pos c) p q = refl
le_z_trans (negsuc a) (negsuc b) (negsuc c) p q = let h = leb-true b a p in let k = leb-true c b q in le-leb c a (omega arith)

le_z_antisym : (x y : ℤ) → le_z x y ≡ true → le_z y x ≡ true → x ≡ y
le_z_antisym (pos a) (pos b) p q = let h = leb-true a b p in let k = leb-true b a q in let e : a ≡ b = omega arith in ap pos e
le_z_antisym (pos a) (negsuc b) p q = false_true p
le_z_antisym (negsuc a) (pos b) p q = false_true q
le_z_antisym (negsuc a) (negsuc b) p q = let h = leb-true b a p in let k = leb-true a b q in let e : a ≡ b = omega arith in ap negsuc e

-- the next integer is above, and nothing lies between
pub suc_above : (x y : ℤ) → le_z (suc_ℤ x) y ≡ true → lt_z x y ≡ true
suc_above (pos a) y p = above y p
  where
    above : (y : ℤ) → le_z (pos (suc a)) y ≡ true → lt_z (pos a) y ≡ true
    above (pos b) e = e
    above (negsuc b) e = e
suc_above (negsuc zero) (pos b) p = refl
suc_above (negsuc zero) (negsuc b) p = false_true p
suc_above (negsuc (suc a)) (pos b) p = refl
suc_above (negsuc (suc a)) (negsuc b) p = let h = leb-true b a p in lt-ltb b (suc a) (omega arith)

pub le_z-suc : (x : ℤ) → le_z x (suc_ℤ x) ≡ true
le_z-suc (pos a) = le-leb a (suc a) (omega arith)
le_z-suc (negsuc zero) = refl
le_z-suc (negsuc (suc a)) = le-leb a (suc a) (omega arith)

pub le_z_cases : (x y : ℤ) → le_z x y ≡ true → (x ≡ y) ⊎ (le_z (suc_ℤ x) y ≡ true)
le_z_cases (pos a) (pos b) p = by (naturals a b)
  where
    by : (a < b) ⊎ ((a ≡ b) ⊎ (b < a)) → (pos a ≡ pos b) ⊎ (leb (suc a) b ≡ true)
    by (inl h) = inr (le-leb (suc a) b h)
    by (inr (inl h)) = inl (ap pos h)
    by (inr (inr h)) = let k = leb-true a b p in absurd (omega arith)
le_z_cases (pos a) (negsuc b) p = false_true p
le_z_cases (negsuc zero) (pos b) p = inr (le-leb zero b (omega arith))
le_z_cases (negsuc (suc a)) (pos b) p = inr refl
le_z_cases (negsuc zero) (negsuc b) p = let h = leb-true b zero p in let e : zero ≡ b = omega arith in inl (ap negsuc e)
le_z_cases (negsuc (suc a)) (negsuc b) p = by (naturals b (suc a))
  where
    by : (b < suc a) ⊎ ((b ≡ suc a) ⊎ (suc a < b)) → (negsuc (suc a) ≡ negsuc b) ⊎ (leb b a ≡ true)
    by (inl h) = inr (le-leb b a (omega arith))
    by (inr (inl h)) = inl (ap negsuc (sym h))
    by (inr (inr h)) = let k = leb-true b (suc a) p in absurd (omega arith)

-- ── The values of a range ──

-- the integer n above z
up : ℕ → ℤ → ℤ
up zero z = z
up (suc n) z = up n (suc_ℤ z)

up_above : (n : ℕ) (z : ℤ) → le_z z (up n z) ≡ true
unfolding up
up_above zero z = le_z_refl z
up_above (suc n) z = le_z_trans z (suc_ℤ z) (up n (suc_ℤ z)) (le_z-suc z) (up_above n (suc_ℤ z))

up_sum : (n : ℕ) (z : ℤ) → up n z ≡ z +ℤ pos n
unfolding up
up_sum zero z = sym (+ℤ_idr z)
up_sum (suc n) z = up_sum n (suc_ℤ z) ∙ suc_ℤ-+ℤ z (pos n) ∙ sym (+ℤ-suc_ℤ z (pos n))

values-between : (n : ℕ) (z y : ℤ) → Memᴰ y (values_from (suc n) z) → (le_z z y ≡ true) × (le_z y (up n z) ≡ true)
unfolding values_from up
values-between zero z y (Memᴰ.head q) = (rw q (le_z_refl z), rw q (le_z_refl z))
values-between zero z y (Memᴰ.tail k) = absurd (Memᴰ.not-nil k)
values-between (suc n) z y (Memᴰ.head q) = (rw q (le_z_refl z), rw q (up_above (suc n) z))
values-between (suc n) z y (Memᴰ.tail k) =
    let h = values-between n (suc_ℤ z) y k in
    (le_z_trans z (suc_ℤ z) y (le_z-suc z) h.0, h.1)

between-values : (n : ℕ) (z y : ℤ) → le_z z y ≡ true → le_z y (up n z) ≡ true → Memᴰ y (values_from (suc n) z)
unfolding values_from up
between-values zero z y p q = Memᴰ.head (le_z_antisym y z q p)
between-values (suc n) z y p q = by (λ h. between-values n (suc_ℤ z) y h q) (le_z_cases z y p)
  where
    by : (le_z (suc_ℤ z) y ≡ true → Memᴰ y (values_from (suc n) (suc_ℤ z))) → (z ≡ y) ⊎ (le_z (suc_ℤ z) y ≡ true) → Memᴰ y (z ∷ values_from (suc n) (suc_ℤ z))
    by f (inl e) = Memᴰ.head (sym e)
    by f (inr h) = Memᴰ.tail (f h)

difference : (x y : ℤ) → le_z x y ≡ true → T (non_neg (y -ℤ x))
difference (pos zero) (pos b) p = tt
difference (pos (suc a)) (pos b) p = by (ltb b (suc a)) refl
  where
    by : (t : Bool) → ltb b (suc a) ≡ t → T (non_neg (cond t (negsuc (suc a - suc b)) (pos (b - suc a))))
    by true e = let h = ltb-true b (suc a) e in let k = leb-true (suc a) b p in absurd (omega arith)
    by false e = tt
difference (pos a) (negsuc b) p = false_true p
difference (negsuc a) (pos b) p = tt
difference (negsuc a) (negsuc b) p = by (ltb (suc a) (suc b)) refl
  where
    by : (t : Bool) → ltb (suc a) (suc b) ≡ t → T (non_neg (cond t (negsuc (suc b - suc (suc a))) (pos (suc a - suc b))))
    by true e = let h = ltb-true (suc a) (suc b) e in let k = leb-true b a p in absurd (omega arith)
    by false e = tt

up-high : (r : Range) → le_z r.low r.high ≡ true → up (nat_abs (r.high -ℤ r.low)) r.low ≡ r.high
up-high r p =
    up_sum (nat_abs (r.high -ℤ r.low)) r.low
    ∙ ap (λ (d : ℤ). r.low +ℤ d) (pos-nat_abs (r.high -ℤ r.low) (difference r.low r.high p))
    ∙ +ℤ_comm r.low (r.high -ℤ r.low)
    ∙ -ℤ-+ℤ_cancel r.high r.low

-- the values of a range are those within it
pub range-within : (r : Range) (y : ℤ) → Memᴰ y (values_of_range r) → within r y ≡ true
unfolding values_of_range
range-within r y k = by (either (le_z r.low r.high))
  where
    by : (le_z r.low r.high ≡ true) ⊎ (le_z r.low r.high ≡ false) → within r y ≡ true
    by (inl p) =
        let h = values-between (nat_abs (r.high -ℤ r.low)) r.low y (rw (cond_true (le_z r.low r.high) (values_from (suc (nat_abs (r.high -ℤ r.low))) r.low) [] p) at k) in
        and_both (le_z r.low y) (le_z y r.high) h.0 (rw (up-high r p) at h.1)
    by (inr p) = absurd (Memᴰ.not-nil (rw (cond_false (le_z r.low r.high) (values_from (suc (nat_abs (r.high -ℤ r.low))) r.low) [] p) at k))

pub within-range : (r : Range) (y : ℤ) → within r y ≡ true → Memᴰ y (values_of_range r)
unfolding values_of_range
within-range r y w =
    let p = and_left (le_z r.low y) (le_z y r.high) w in
    let q = and_right (le_z r.low y) (le_z y r.high) w in
    let o = le_z_trans r.low y r.high p q in
    rw (cond_true (le_z r.low r.high) (values_from (suc (nat_abs (r.high -ℤ r.low))) r.low) [] o)
    (between-values (nat_abs (r.high -ℤ r.low)) r.low y p (rw (up-high r o) q))

-- a list of integers strictly rises
abbrev pub Climbing : List ℤ → Type 0
Climbing [] = Unit {0}
Climbing (x ∷ xs) = Every (λ y. lt_z x y ≡ true) xs × Climbing xs

values_climb : (n : ℕ) (z : ℤ) → Climbing (values_from n z)
unfolding values_from
values_climb zero z = tt
values_climb (suc zero) z = (tt, tt)
values_climb (suc (suc n)) z = (Every-of (λ y. lt_z z y ≡ true) (values_from (suc n) (suc_ℤ z)) (λ y k. suc_above z y (values-between n (suc_ℤ z) y k).0), values_climb (suc n) (suc_ℤ z))

pub range_climbs : (r : Range) → Climbing (values_of_range r)
unfolding values_of_range
range_climbs r = by (le_z r.low r.high)
  where
    by : (t : Bool) → Climbing (cond t (values_from (suc (nat_abs (r.high -ℤ r.low))) r.low) [])
    by true = values_climb (suc (nat_abs (r.high -ℤ r.low))) r.low
    by false = tt
