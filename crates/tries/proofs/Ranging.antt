-- The values of a RANGE word counted in 14 bits. The idea: the 14 bits u stand for (u + 8192) % 16384 - 8192, so the next value has the
-- next bits, and the bits of the two ends differ, modulo 16384, by as much as the ends do.
use mathlib.Core.Path.{◌≡◌, refl, sym, ap, ◌∙◌}
use mathlib.Core.Logic.{◌⊎◌, inl, inr}
use mathlib.Core.Bool.{Bool, true, false, cond}
use mathlib.Core.List.{List, [], ◌∷◌, map}
use mathlib.Core.Option.{some}
use Prim.Native.Nat.{ℕ, zero, suc, ◌+◌, ◌-◌, ◌/◌, ◌%◌, ◌^◌, ◌≤◌, ◌<◌}
use native.Mathlib.Omega.{arith}
use borrow.Author.Tests.{ltb-true, ltb-false, leb-true, lt-ltb}
use lib.Dec.{ltb}
use lib.IntN.{ℤ, pos, negsuc, suc_ℤ, nat_abs, ◌-ℤ◌}
use lib.Signed.{le_z}
use lib.ListN.{length}
use Rattle.semantics.specs.Word.{signed}
use Rattle.semantics.specs.Order.{values_from, values_of_range}
use Rattle.semantics.proofs.Tests.{false_true, either, cond_true}
use Rattle.word.specs.Fields.{range_word}
use Rattle.word.proofs.Words.{bits-low, signed_low, signed_high}
use Rattle.evaluation.specs.Evaluate.{value_of}
use Rattle.tries.specs.Range.{value_at, CountsValues, up_from}

-- ── Bits and values ──

-- the next value
next-value : (u : ℕ) → u < 16384 → (u ≡ 8191 → ⊥) → suc_ℤ (signed u) ≡ signed ((u + 1) % 16384)
next-value u h k = by (either (ltb u 8192))
  where
    below : (m : ℕ) → 16383 - u ≡ m → 8192 ≤ u → suc_ℤ (negsuc m) ≡ signed ((u + 1) % 16384)
    below zero e g = let d : (u + 1) % 16384 ≡ 0 = omega arith in rw d
    below (suc m) e g =
        let d : (u + 1) % 16384 ≡ u + 1 = omega arith in
        let f : m ≡ 16383 - (u + 1) = omega arith in
        rw (d, signed_high (u + 1) (omega arith)) (ap negsuc f)

    by : (ltb u 8192 ≡ true) ⊎ (ltb u 8192 ≡ false) → suc_ℤ (signed u) ≡ signed ((u + 1) % 16384)
    by (inl e) =
        let g = ltb-true u 8192 e in
        let d : (u + 1) % 16384 ≡ suc u = omega arith in
        let f : suc u < 8192 = omega arith in
        ap suc_ℤ (signed_low u g) ∙ sym (ap signed d ∙ signed_low (suc u) f)
    by (inr e) = let g = ltb-false u 8192 e in ap suc_ℤ (signed_high u g) ∙ below (16383 - u) refl g

-- ── The ends of a range ──

gap_natural : (a b : ℕ) → a ≤ b → nat_abs (pos b -ℤ pos a) ≡ b - a
gap_natural zero b h = omega arith
gap_natural (suc a) b h = by (ltb b (suc a)) refl
  where
    by : (t : Bool) → ltb b (suc a) ≡ t → nat_abs (cond t (negsuc (suc a - suc b)) (pos (b - suc a))) ≡ b - suc a
    by true e = absurd (omega (arith, ltb-true b (suc a) e))
    by false e = refl

gap_negative : (a b : ℕ) → b ≤ a → nat_abs (negsuc b -ℤ negsuc a) ≡ a - b
gap_negative a b h = by (ltb (suc a) (suc b)) refl
  where
    by : (t : Bool) → ltb (suc a) (suc b) ≡ t → nat_abs (cond t (negsuc (suc b - suc (suc a))) (pos (suc a - suc b))) ≡ a - b
    by true e = absurd (omega (arith, ltb-true (suc a) (suc b) e))
    by false e = omega arith

-- how far the ends are apart, and that the values end before the bits come round
record Apart (l h : ℕ) : Type 0 where
  gap : nat_abs (signed h -ℤ signed l) ≡ (h + 16384 - l) % 16384
  ends : (l + 8192) % 16384 + (h + 16384 - l) % 16384 < 16384

apart : (l h : ℕ) → l < 16384 → h < 16384 → le_z (signed l) (signed h) ≡ true → Apart l h
apart l h p q o = by (either (ltb l 8192)) (either (ltb h 8192))
  where
    by : (ltb l 8192 ≡ true) ⊎ (ltb l 8192 ≡ false) → (ltb h 8192 ≡ true) ⊎ (ltb h 8192 ≡ false) → Apart l h
    by (inl d) (inl e) =
        let i = ltb-true l 8192 d in
        let j = ltb-true h 8192 e in
        let k : l ≤ h = leb-true l h (rw (signed_low l i, signed_low h j) at o) in
        let s : h - l ≡ (h + 16384 - l) % 16384 = omega arith in
        record { gap = rw (signed_low l i, signed_low h j) (gap_natural l h k ∙ s); ends = omega arith }
    by (inl d) (inr e) = false_true (rw (signed_low l (ltb-true l 8192 d), signed_high h (ltb-false h 8192 e)) at o)
    by (inr d) (inl e) =
        let i = ltb-false l 8192 d in
        let j = ltb-true h 8192 e in
        let s : h + suc (16383 - l) ≡ (h + 16384 - l) % 16384 = omega arith in
        record { gap = rw (signed_high l i, signed_low h j) s; ends = omega arith }
    by (inr d) (inr e) =
        let i = ltb-false l 8192 d in
        let j = ltb-false h 8192 e in
        let k : 16383 - h ≤ 16383 - l = leb-true (16383 - h) (16383 - l) (rw (signed_high l i, signed_high h j) at o) in
        let s : (16383 - l) - (16383 - h) ≡ (h + 16384 - l) % 16384 = omega arith in
        record { gap = rw (signed_high l i, signed_high h j) (gap_negative (16383 - l) (16383 - h) k ∙ s); ends = omega arith }

-- ── The values of a range ──

values_length : (n : ℕ) (z : ℤ) → length (values_from n z) ≡ n
unfolding values_from
values_length zero z = refl
values_length (suc n) z = ap suc (values_length n (suc_ℤ z))

module _ (w : ℕ) (o : le_z (range_word w).low (range_word w).high ≡ true) where
  ends-apart : Apart (w / 16384 % 16384) (w % 16384)
  ends-apart = apart (w / 16384 % 16384) (w % 16384) (omega arith) (omega arith) (rw (bits-low 13 w) at o)

  values-are : values_of_range (range_word w) ≡ values_from (suc ((w % 16384 + 16384 - w / 16384 % 16384) % 16384)) (signed (w / 16384 % 16384))
  unfolding values_of_range
  values-are =
      cond_true (le_z (range_word w).low (range_word w).high) (values_from (suc (nat_abs ((range_word w).high -ℤ (range_word w).low))) (range_word w).low) [] o
      ∙ ap (λ (n : ℕ). values_from (suc n) (signed (w / 16384 % 16384))) (ap (λ (u : ℕ). nat_abs (signed u -ℤ signed (w / 16384 % 16384))) (bits-low 13 w) ∙ ends-apart.gap)

  pub range_length : length (values_of_range (range_word w)) ≡ (w % 16384 + 16384 - w / 16384 % 16384) % 16384 + 1
  range_length = ap length values-are ∙ values_length (suc ((w % 16384 + 16384 - w / 16384 % 16384) % 16384)) (signed (w / 16384 % 16384)) ∙ omega arith

-- values counted up from the one that is i above the low end
walk : (w n i : ℕ) → (w / 16384 % 16384 + 8192) % 16384 + i + n ≤ 16384 → map (value_at w) (up_from i n) ≡ values_from n (value_at w i)
unfolding up_from values_from
walk w zero i h = refl
walk w (suc zero) i h = refl
walk w (suc (suc n)) i h =
    let l = w / 16384 % 16384 in
    let u : ((l + i) % 16384 + 1) % 16384 ≡ (l + suc i) % 16384 = omega arith in
    let s : suc_ℤ (value_at w i) ≡ value_at w (suc i) = next-value ((l + i) % 16384) (omega arith) (λ e. omega arith) ∙ ap signed u in
    ap (λ (zs : List ℤ). value_at w i ∷ zs) (walk w (suc n) (suc i) (omega arith) ∙ ap (values_from (suc n)) (sym s))

pub range-values : (w : ℕ) → le_z (range_word w).low (range_word w).high ≡ true → map (value_at w) (up_from 0 (length (values_of_range (range_word w)))) ≡ values_of_range (range_word w)
range-values w o =
    let l = w / 16384 % 16384 in
    let d = (w % 16384 + 16384 - w / 16384 % 16384) % 16384 in
    let e : (l + 0) % 16384 ≡ l = omega arith in
    ap (λ (n : ℕ). map (value_at w) (up_from 0 n)) (ap length (values-are w o) ∙ values_length (suc d) (signed l))
    ∙ walk w (suc d) 0 (omega (arith, (ends-apart w o).ends))
    ∙ ap (λ (u : ℕ). values_from (suc d) (signed u)) e
    ∙ sym (values-are w o)

pub counted : (w : ℕ) → CountsValues w ((w % 16384 + 16384 - w / 16384 % 16384) % 16384 + 1)
counted w = record { few = omega arith; counts = λ o. sym (range_length w o) }

-- ── A value written as 14 bits ──

pub written : (u : ℕ) → u < 16384 → value_of (3221225472 + u) ≡ some (signed u)
written u h =
    let d : (3221225472 + u) / 2 ^ 28 ≡ 12 = omega arith in
    let e : (3221225472 + u) % 2 ^ 28 ≡ u = omega arith in
    rw (d, e, lt-ltb u 16384 h)
