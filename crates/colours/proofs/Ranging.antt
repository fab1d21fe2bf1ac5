-- The rules of a value in a range: its digit is held against those of the ends, since digits stand to each other as values do; a value of more than 14 bits
-- is in no range of a RANGE word.
use mathlib.Core.Path.{◌≡◌, sym, ap, ◌∙◌}
use mathlib.Core.Logic.{◌⊎◌, inl, inr}
use Prim.Native.Nat.{ℕ, ◌/◌, ◌%◌, ◌≤◌, ◌<◌}
use mathlib.Core.Bool.{Bool, true, false, not}
use borrow.Author.Tests.{not-true, not-false, le-leb, lt-leb}
use native.Mathlib.Omega.{arith}
use lib.Dec.{leb}
use lib.IntN.{ℤ, pos, negsuc}
use lib.Signed.{le_z, mag}
use Rattle.semantics.specs.Word.{signed, value_word, within}
use Rattle.semantics.proofs.Tests.{either, not_both}
use Rattle.semantics.proofs.Words.{within-mag}
use Rattle.word.specs.Fields.{ends, range_word}
use Rattle.word.proofs.Words.{range_small}
use Rattle.colours.specs.Code.{of_digit}
use Rattle.colours.proofs.Codes.{digit_at_most, value_back}

-- ── The digit of a value ──

module _ (range d : ℕ) (h : d < 16384) {low : ℕ} (e : of_digit low ≡ signed (range / 16384 % 16384)) (l : low < 16384) where
  from_low : le_z (signed (range / 16384 % 16384)) (of_digit d) ≡ leb low d
  from_low = ap (λ (z : ℤ). le_z z (of_digit d)) (sym e) ∙ digit_at_most low d l h

  pub digit_below : d < low → false ≡ within (range_word range) (of_digit d)
  digit_below k = let f : le_z (signed (range / 16384 % 16384)) (of_digit d) ≡ false = from_low ∙ lt-leb low d k in rw f

  pub digit-inside : low ≤ d → {high : ℕ} → of_digit high ≡ signed (range % 16384) → high < 16384 → leb d high ≡ within (range_word range) (of_digit d)
  digit-inside k {high} g m =
      let f : le_z (signed (range / 16384 % 16384)) (of_digit d) ≡ true = from_low ∙ le-leb low d k in
      let q : range / 1 ≡ range = omega arith in
      rw (f, q) (sym (ap (le_z (of_digit d)) (sym g) ∙ digit_at_most d high h m))

-- ── A value ──

fourteen : (z : ℤ) → mag z < 8192 → within (ends (negsuc 8191) (pos 8191)) z ≡ true
fourteen (pos n) h = le-leb n 8191 (omega arith)
fourteen (negsuc n) h = rw (le-leb n 8191 (omega arith))

module _ (range : ℕ) (z : ℤ) {x : Bool} (e : x ≡ within (ends (negsuc 8191) (pos 8191)) z) where
  pub range_past : not x ≡ true → false ≡ within (range_word range) z
  range_past d = sym (by (either (within (range_word range) z)))
    where
      by : (within (range_word range) z ≡ true) ⊎ (within (range_word range) z ≡ false) → within (range_word range) z ≡ false
      by (inl w) = absurd (not_both x (e ∙ fourteen z (range_small range z w)) (not-true x d))
      by (inr w) = w

  pub fourteen_bits : not x ≡ false → mag z < 8192
  fourteen_bits d = within-mag (ends (negsuc 8191) (pos 8191)) z (omega arith) (omega arith) (sym e ∙ not-false x d)

  pub range-digit : not x ≡ false → {w : ℕ} (d : ℕ) {t : Bool} → w ≡ value_word z → of_digit d ≡ signed (w % 16384) → t ≡ within (range_word range) (of_digit d) → t ≡ within (range_word range) z
  range-digit d {w} k f g r =
      r ∙ ap (within (range_word range)) (g ∙ ap (λ (k : ℕ). signed (k % 16384)) f ∙ value_back z (fourteen_bits d))
