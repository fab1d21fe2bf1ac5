-- The rules of binding a variable anew: beyond the variables and outside the range it is not bound, else its slot is set.
use mathlib.Core.Path.{◌≡◌, refl, sym, ap, ◌∙◌}
use mathlib.Core.Bool.{Bool, true, false, not}
use mathlib.Core.List.{List}
use mathlib.Core.Option.{none, some}
use Prim.Native.Nat.{ℕ, zero, suc, ◌+◌, ◌≤◌, ◌<◌}
use native.Mathlib.Omega.{arith}
use borrow.Author.Tests.{not-true, not-false}
use lib.IntN.{ℤ}
use lib.ListN.{get_or, get_elem?, set}
use Rattle.semantics.specs.Word.{within, value_word}
use Rattle.semantics.specs.Tries.{bind_new}
use Rattle.word.specs.Fields.{range_word}
use Rattle.word.proofs.Words.{range_small}
use Rattle.evaluation.specs.Evaluate.{value_of}
use Rattle.evaluation.proofs.Answers.{value_written}
use Rattle.net.specs.Places.{ranges_from}
use Rattle.tries.specs.Partial.{partial_of}
use Rattle.tries.proofs.Slots.{slots_set}

-- ── The ranges of variables ──

pub range_at : (ws : List ℕ) (v at n : ℕ) → n < v → get_elem? (ranges_from ws v at) n ≡ some (range_word (get_or ws (at + n) 0))
unfolding ranges_from
range_at ws zero at n h = absurd (omega arith)
range_at ws (suc v) at zero h = let e : at + 0 ≡ at = omega arith in rw e
range_at ws (suc v) at (suc n) h = let e : at + 1 + n ≡ at + suc n = omega arith in range_at ws v (at + 1) n (omega arith) ∙ ap (λ (k : ℕ). some (range_word (get_or ws k 0))) e

pub range-beyond : (ws : List ℕ) (v at n : ℕ) → v ≤ n → get_elem? (ranges_from ws v at) n ≡ none
unfolding ranges_from
range-beyond ws zero at n h = refl
range-beyond ws (suc v) at zero h = absurd (omega arith)
range-beyond ws (suc v) at (suc n) h = range-beyond ws v (at + 1) n (omega arith)

-- ── The rules ──

module _ (ws : List ℕ) (v at : ℕ) (b : List ℕ) (n : ℕ) (z : ℤ) where
  pub bind-beyond : v ≤ n → none ≡ bind_new (partial_of v b) n (get_elem? (ranges_from ws v at) n) z
  bind-beyond h = rw (range-beyond ws v at n h)

  module _ (h : n < v) {u : Bool} (e : u ≡ within (range_word (get_or ws (at + n) 0)) z) where
    pub bind-outside : not u ≡ true → none ≡ bind_new (partial_of v b) n (get_elem? (ranges_from ws v at) n) z
    bind-outside d = let f : within (range_word (get_or ws (at + n) 0)) z ≡ false = sym e ∙ not-true u d in rw (range_at ws v at n h, f)

    pub bind-inside : {w : ℕ} → not u ≡ false → w ≡ value_word z → some (partial_of v (set b n w)) ≡ bind_new (partial_of v b) n (get_elem? (ranges_from ws v at) n) z
    bind-inside {w} d g =
        let f : within (range_word (get_or ws (at + n) 0)) z ≡ true = sym e ∙ not-false u d in
        rw (range_at ws v at n h, f) (ap some (slots_set v n w b z h (ap value_of g ∙ value_written z (range_small (get_or ws (at + n) 0) z f))))
