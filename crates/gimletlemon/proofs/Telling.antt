-- What a C program is told follows from what the calls answer.
-- Rests on semantics/specs/Calls and accept/specs/Front.
use mathlib.Core.Path.{◌≡◌, ap, ◌∙◌}
use mathlib.Core.Logic.{◌⊎◌, inl, inr}
use mathlib.Core.Bool.{true, false}
use mathlib.Core.List.{List}
use Prim.Native.Nat.{ℕ, ◌-◌, ◌≤◌}
use native.Mathlib.Omega.{arith}
use borrow.Author.Tests.{leb-true, leb-false}
use lib.Dec.{leb}
use lib.ListN.{length, drop, length-drop, drop_of_length-le}
use lib.Seq.{drop-length}
use Rattle.semantics.specs.Reading.{Reading, read, refused}
use Rattle.semantics.specs.Net.{Net}
use Rattle.semantics.specs.Plan.{accept_front}
use Rattle.semantics.specs.Calls.{SplitEnd, split_by, split_call}
use Rattle.accept.specs.Front.{split_into}
use Rattle.semantics.proofs.Tests.{either}

-- ── Answers ──

-- what is told of an answer is told of the call that answers it
pub passed_on : {A X : Type 0} {u : X} (f : A → X) {a b : A} → a ≡ b → u ≡ f a → u ≡ f b
passed_on f e h = h ∙ ap f e

-- ── Split ──

-- a part from a position on begins where it leaves off of the whole
drop_again : (ws : List ℕ) (k : ℕ) → drop (length ws - length (drop k ws)) ws ≡ drop k ws
drop_again ws k = by (either (leb (length ws) k))
  where
    by : (leb (length ws) k ≡ true) ⊎ (leb (length ws) k ≡ false) → drop (length ws - length (drop k ws)) ws ≡ drop k ws
    by (inl t) =
        let e = drop_of_length-le ws (leb-true (length ws) k t) in
        let l : length (drop k ws) ≡ 0 = ap length e in
        let s : length ws - length (drop k ws) ≡ length ws = omega arith in
        rw (s, drop-length ws, e)
    by (inr t) =
        let h = leb-false (length ws) k t in
        let l = length-drop k ws in
        let s : length ws - length (drop k ws) ≡ k = omega arith in
        ap (λ (j : ℕ). drop j ws) s

rest-short : (ws : List ℕ) (x : Reading Net) → length (split_by ws x).rest ≤ length ws
rest-short ws (read net next) = let l = length-drop next ws in omega arith
rest-short ws (refused n p) = omega arith

rest_again : (ws : List ℕ) (x : Reading Net) → drop (length ws - length (split_by ws x).rest) ws ≡ (split_by ws x).rest
rest_again ws (read net next) = drop_again ws next
rest_again ws (refused n p) =
    let s : length ws - 0 ≡ length ws = omega arith in
    rw (s) (drop-length ws)

module _ (ws part : List ℕ) (n p : ℕ) (e : split_into part n p ≡ split_call ws) where
  part-is : part ≡ (split_call ws).rest
  part-is = ap (λ (s : SplitEnd). s.rest) e

  pub split_short : length part ≤ length ws
  unfolding split_call
  split_short = rw part-is (rest-short ws (accept_front ws))

  pub split_told : split_into (drop (length ws - length part) ws) n p ≡ split_call ws
  unfolding split_call
  split_told = let q : drop (length ws - length part) ws ≡ part = rw part-is (rest_again ws (accept_front ws)) in rw q e

  pub split_start : length ws - length part ≡ length ws - length (split_call ws).rest
  split_start = ap (λ (l : List ℕ). length ws - length l) part-is
