-- Rows of VALUE words compared value by value: while the first ones are the same, the first that differ decide.
-- One law for each end and turn of the loop.
use mathlib.Core.Path.{◌≡◌, refl, sym, ap, ◌∙◌}
use mathlib.Core.Logic.{◌⊎◌, inl, inr}
use mathlib.Core.Bool.{Bool, true, false}
use mathlib.Core.List.{List, [], ◌∷◌}
use Prim.Native.Nat.{ℕ, zero, suc, ◌+◌, ◌≤◌, ◌<◌, ◌%◌}
use native.Mathlib.Numerals.{add-one}
use native.Mathlib.Omega.{arith}
use lib.IntN.{ℤ, pos}
use lib.Signed.{lt_z, mag}
use mir.Syntax.{w32}
use mir.Val.{to_z, of_z}
use lib.ListN.{length, get_or, take, drop, length-map, length-drop, get_or-map}
use lib.Seq.{take-suc, take_all, length-take-le, get_or-take, get_or-drop}
use Rattle.semantics.specs.Word.{signed}
use Rattle.semantics.specs.Order.{before}
use Rattle.semantics.proofs.Tests.{not_both}
use Rattle.semantics.proofs.Integers.{lt_z-total}
use Rattle.semantics.proofs.Order.{before-first, before-rest}
use Rattle.word.proofs.Read.{read_back}
use Rattle.rows.specs.Rows.{values_of_words}

-- ── Two lists of values ──

-- lists that are the same up to j, where the first is less at j
before_at : (j : ℕ) (xs ys : List ℤ) → take j xs ≡ take j ys → j < length xs → j < length ys → lt_z (get_or xs j (pos 0)) (get_or ys j (pos 0)) ≡ true → before xs ys ≡ true
before_at j [] ys e h k l = absurd (omega arith)
before_at j (x ∷ xs) [] e h k l = absurd (omega arith)
before_at zero (x ∷ xs) (y ∷ ys) e h k l = before-first x y xs ys l
before_at (suc j) (x ∷ xs) (y ∷ ys) e h k l =
    let p : x ≡ y = cc in
    let q : take j xs ≡ take j ys = cc in
    rw p (before-rest y xs ys (before_at j xs ys q (omega arith) (omega arith) l))

take_more : (j : ℕ) (xs ys : List ℤ) → take j xs ≡ take j ys → j < length xs → j < length ys → get_or xs j (pos 0) ≡ get_or ys j (pos 0) → take (j + 1) xs ≡ take (j + 1) ys
take_more j xs ys e h k p = rw (add-one, take-suc xs j (pos 0), take-suc ys j (pos 0)) (cc)

-- integers of which neither is less are the same
neither_less : (x y : ℤ) → lt_z x y ≡ false → lt_z y x ≡ false → x ≡ y
neither_less x y p q = by (lt_z-total x y)
  where
    by : (lt_z x y ≡ true) ⊎ ((x ≡ y) ⊎ (lt_z y x ≡ true)) → x ≡ y
    by (inl h) = absurd (not_both (lt_z x y) h p)
    by (inr (inl h)) = h
    by (inr (inr h)) = absurd (not_both (lt_z y x) h q)

-- ── Words of a buffer against a row ──

-- the values of the words at a position, as many as a row has
abbrev pub values_there : List ℕ → ℕ → List ℕ → List ℤ
values_there m at row = values_of_words (take (length row) (drop at m))

there-length : (m : List ℕ) (at : ℕ) (row : List ℕ) → at + length row ≤ length m → length (values_there m at row) ≡ length row
there-length m at row h = length-map (take (length row) (drop at m)) (λ w. signed (w % 16384)) ∙ length-take-le (length row) (drop at m) (rw length-drop (omega arith))

there_at : (m : List ℕ) (at : ℕ) (row : List ℕ) (j : ℕ) → j < length row → get_or (values_there m at row) j (pos 0) ≡ signed (get_or m (at + j) 0 % 16384)
there_at m at row j h =
    get_or-map (λ w. signed (w % 16384)) (take (length row) (drop at m)) j 0
    ∙ ap (λ (w : ℕ). signed (w % 16384)) (get_or-take (length row) (drop at m) j 0 h ∙ get_or-drop at m j 0)

pub record Alike (m : List ℕ) (at : ℕ) (row : List ℕ) (j : ℕ) : Type 0 where
  pub room : at + length row ≤ length m
  pub inside : j ≤ length row
  pub same : take j (values_there m at row) ≡ take j (values_of_words row)

pub alike_start : (m : List ℕ) (at : ℕ) (row : List ℕ) → at + length row ≤ length m → Alike m at row 0
alike_start m at row h = record { room = h; inside = omega arith; same = refl }

module _ {m : List ℕ} {at : ℕ} {row : List ℕ} {j : ℕ} (a : Alike m at row j) where
  left-long : length (values_there m at row) ≡ length row
  left-long = there-length m at row a.room

  right-long : length (values_of_words row) ≡ length row
  right-long = length-map row (λ w. signed (w % 16384))

  pub alike_end : length row ≤ j → values_there m at row ≡ values_of_words row
  alike_end h = sym (take_all j (values_there m at row) (rw left-long h)) ∙ a.same ∙ take_all j (values_of_words row) (rw right-long h)

  module _ (h : j < length row) where
    left-value : get_or (values_there m at row) j (pos 0) ≡ signed (get_or m (at + j) 0 % 16384)
    left-value = there_at m at row j h

    right-value : get_or (values_of_words row) j (pos 0) ≡ signed (get_or row j 0 % 16384)
    right-value = get_or-map (λ w. signed (w % 16384)) row j 0

    pub alike_under : lt_z (signed (get_or m (at + j) 0 % 16384)) (signed (get_or row j 0 % 16384)) ≡ true → before (values_there m at row) (values_of_words row) ≡ true
    alike_under p = before_at j (values_there m at row) (values_of_words row) a.same (rw left-long h) (rw right-long h) (rw (left-value, right-value) p)

    pub alike_over : lt_z (signed (get_or row j 0 % 16384)) (signed (get_or m (at + j) 0 % 16384)) ≡ true → before (values_of_words row) (values_there m at row) ≡ true
    alike_over p = before_at j (values_of_words row) (values_there m at row) (sym a.same) (rw right-long h) (rw left-long h) (rw (left-value, right-value) p)

    pub alike_turn : lt_z (signed (get_or m (at + j) 0 % 16384)) (signed (get_or row j 0 % 16384)) ≡ false → lt_z (signed (get_or row j 0 % 16384)) (signed (get_or m (at + j) 0 % 16384)) ≡ false → Alike m at row (j + 1)
    alike_turn p q = record {
      room = a.room;
      inside = omega arith;
      same = take_more j (values_there m at row) (values_of_words row) a.same (rw left-long h) (rw right-long h) (left-value ∙ neither_less (signed (get_or m (at + j) 0 % 16384)) (signed (get_or row j 0 % 16384)) p q ∙ sym right-value);
    }

-- what the code found of two values: it compares them as it reads them back from bits
pub told : {x y v w : ℤ} {t u : Bool} → (x ≡ v) × (mag x < 8192) → (y ≡ w) × (mag y < 8192) → t ≡ lt_z (to_z w32 (of_z w32 x)) (to_z w32 (of_z w32 y)) → t ≡ u → lt_z v w ≡ u
told {x} {y} p q e d = rw (read_back x (omega (arith, p.1)) ∙ p.0, read_back y (omega (arith, q.1)) ∙ q.0) at (sym e ∙ d)
