-- The rules of comparing values in words one by one: while the first ones are equal, what is left decides.
-- One law for each turn and end.
use mathlib.Core.Path.{◌≡◌, refl, sym, ap, ◌∙◌}
use Prim.Native.Nat.{ℕ, zero, suc, ◌+◌, ◌≤◌, ◌<◌, ◌%◌}
use mathlib.Core.Bool.{Bool, true, false, not}
use mathlib.Core.List.{List, [], ◌∷◌}
use borrow.Author.Rules.{rules}
use borrow.Author.Tests.{not-true, not-false}
use native.Mathlib.Numerals.{add-one}
use native.Mathlib.Omega.{arith}
use lib.IntN.{ℤ, pos}
use lib.Signed.{lt_z}
use lib.ListN.{length, get_or, drop, drop_of_length-le}
use lib.Seq.{drop-cons}
use Rattle.semantics.specs.Word.{signed}
use Rattle.semantics.specs.Order.{same_integer, before}
use Rattle.colours.specs.Values.{values_at}

-- ── Values in words ──

pub values_length : (ws : List ℕ) (n at : ℕ) → length (values_at ws n at) ≡ n
unfolding values_at
values_length ws zero at = refl
values_length ws (suc n) at = ap suc (values_length ws n (at + 1))

pub values_at_lem : (ws : List ℕ) (n at i : ℕ) → i < n → get_or (values_at ws n at) i (pos 0) ≡ signed (get_or ws (at + i) 0 % 16384)
unfolding values_at
values_at_lem ws zero at i h = absurd (omega arith)
values_at_lem ws (suc n) at zero h = let e : at + 0 ≡ at = omega arith in rw e
values_at_lem ws (suc n) at (suc i) h =
    let e : at + 1 + i ≡ at + suc i = omega arith in
    values_at_lem ws n (at + 1) i (omega arith) ∙ ap (λ (k : ℕ). signed (get_or ws k 0 % 16384)) e

-- ── Two lists ──

-- of words compared value by value: the comparison is that of what is left of them
pub record WordsLeft (ws : List ℕ) (n p q i : ℕ) : Type 0 where
  pub inside : i ≤ n
  pub same : before (drop i (values_at ws n p)) (drop i (values_at ws n q)) ≡ before (values_at ws n p) (values_at ws n q)

pub words-start : (ws : List ℕ) (n p q : ℕ) → WordsLeft ws n p q 0
words-start ws n p q = record { inside = omega arith; same = refl }

module _ {ws : List ℕ} {n p q i : ℕ} (a : WordsLeft ws n p q i) where
  pub words-end : n ≤ i → false ≡ before (values_at ws n p) (values_at ws n q)
  unfolding before
  words-end h =
      let f : drop i (values_at ws n p) ≡ [] = drop_of_length-le _ {i = i} (rw (values_length ws n p) h) in
      let g : drop i (values_at ws n q) ≡ [] = drop_of_length-le _ {i = i} (rw (values_length ws n q) h) in
      rw (f, g) at a.same

  module _ (h : i < n) where
    -- the values of a position that are left
    left : (at : ℕ) → drop i (values_at ws n at) ≡ signed (get_or ws (at + i) 0 % 16384) ∷ drop (i + 1) (values_at ws n at)
    left at = drop-cons (values_at ws n at) i (pos 0) (rw (values_length ws n at) h) ∙ rw (values_at_lem ws n at i h, add-one i) refl

    -- what the code found of the values there
    module _ {x y : ℤ} (f : x ≡ signed (get_or ws (p + i) 0 % 16384)) (g : y ≡ signed (get_or ws (q + i) 0 % 16384)) {t : Bool} (e : t ≡ lt_z x y) where
      pub words-less : t ≡ true → true ≡ before (values_at ws n p) (values_at ws n q)
      unfolding before
      words-less d = rw (left p, left q, ← f, ← g, sym e ∙ d) at a.same

      module _ (k : t ≡ false) {u : Bool} (s : u ≡ same_integer x y) where
        pub words_more : not u ≡ true → false ≡ before (values_at ws n p) (values_at ws n q)
        unfolding before
        words_more d = rw (left p, left q, ← f, ← g, sym e ∙ k, sym s ∙ not-true _ d) at a.same

        pub words_turn : not u ≡ false → WordsLeft ws n p q (i + 1)
        unfolding before
        words_turn d = record { inside = omega arith; same = rw (left p, left q, ← f, ← g, sym e ∙ k, sym s ∙ not-false _ d) at a.same }

pub ruleset comparing = (rules, words-less, words_more, words_turn, words-end)
