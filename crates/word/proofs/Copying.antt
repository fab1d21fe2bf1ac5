-- Words from bytes: how many there are and what each is, and the loop that writes them to the front of a buffer.
-- Rests on semantics/specs/Word.
use mathlib.Core.Path.{◌≡◌, refl, ap, ◌∙◌}
use mathlib.Core.List.{List, [], ◌∷◌, ◌++◌}
use Prim.Native.Nat.{ℕ, zero, suc, ◌+◌, ◌*◌, ◌/◌, ◌≤◌, ◌<◌, ◌^◌, min}
use native.Mathlib.Omega.{arith}
use native.Mathlib.Numerals.{add-one}
use lib.ListN.{length, get_or, take, drop, set, length-set}
use Rattle.semantics.specs.Word.{words_of_bytes}

pub words-length : (bs : List ℕ) → length (words_of_bytes bs) ≡ length bs / 4
unfolding words_of_bytes
words-length [] = omega arith
words-length (a ∷ []) = omega arith
words-length (a ∷ b ∷ []) = omega arith
words-length (a ∷ b ∷ c ∷ []) = omega arith
words-length (a ∷ b ∷ c ∷ d ∷ r) = let h = words-length r in omega arith

-- the word of the four bytes from a position on
abbrev pub word_from : List ℕ → ℕ → ℕ
word_from bs p = get_or bs p 0 + get_or bs (p + 1) 0 * 2 ^ 8 + get_or bs (p + 2) 0 * 2 ^ 16 + get_or bs (p + 3) 0 * 2 ^ 24

pub words_at : (bs : List ℕ) (i : ℕ) → i < length bs / 4 → get_or (words_of_bytes bs) i 0 ≡ word_from bs (4 * i)
unfolding words_of_bytes
words_at [] i h = absurd (omega arith)
words_at (a ∷ []) i h = absurd (omega arith)
words_at (a ∷ b ∷ []) i h = absurd (omega arith)
words_at (a ∷ b ∷ c ∷ []) i h = absurd (omega arith)
words_at (a ∷ b ∷ c ∷ d ∷ r) zero h = refl
words_at (a ∷ b ∷ c ∷ d ∷ r) (suc i) h =
    let p : 4 * suc i ≡ suc (suc (suc (suc (4 * i)))) = omega arith in
    let q : suc (suc (suc (suc (4 * i)))) + 1 ≡ suc (suc (suc (suc (4 * i + 1)))) = omega arith in
    let u : suc (suc (suc (suc (4 * i)))) + 2 ≡ suc (suc (suc (suc (4 * i + 2)))) = omega arith in
    let v : suc (suc (suc (suc (4 * i)))) + 3 ≡ suc (suc (suc (suc (4 * i + 3)))) = omega arith in
    rw (p, q, u, v) (words_at r i (omega arith))

-- one more word is written
store : (us ws : List ℕ) (i : ℕ) → i < length us → i < length ws → set (take i us ++ drop i ws) i (get_or us i 0) ≡ take (suc i) us ++ drop (suc i) ws
store [] ws i h k = absurd (omega arith)
store (x ∷ xs) [] i h k = absurd (omega arith)
store (x ∷ xs) (y ∷ ys) zero h k = refl
store (x ∷ xs) (y ∷ ys) (suc i) h k = ap (λ (l : List ℕ). x ∷ l) (store xs ys i (omega arith) (omega arith))

-- i of n words are written to a buffer that held ws₀
pub record Filled (bs ws₀ : List ℕ) (n i : ℕ) (ws : List ℕ) : Type 0 where
  pub upto : i ≤ n
  pub enough : n ≡ min (length bs / 4) (length ws₀)
  pub same : ws ≡ take i (words_of_bytes bs) ++ drop i ws₀
  pub size : length ws ≡ length ws₀

module _ {bs ws₀ ws : List ℕ} {n i : ℕ} where
  pub filled_again : {w : ℕ} → Filled bs ws₀ n i ws → i < n → w ≡ word_from bs (4 * i) → Filled bs ws₀ n (i + 1) (set ws i w)
  filled_again {w = w} f h e =
      let m = f.enough in
      let l = words-length bs in
      let x : i < length bs / 4 = omega arith in
      let s = store (words_of_bytes bs) ws₀ i (omega arith) (omega arith) in
      record {
        upto = omega arith;
        enough = f.enough;
        same = rw (f.same, e, ← words_at bs i x, add-one i) s;
        size = length-set ws i w ∙ f.size;
      }

  pub filled_end : Filled bs ws₀ n i ws → n ≤ i → ws ≡ take n (words_of_bytes bs) ++ drop n ws₀
  filled_end f h = let u = f.upto in let e : i ≡ n = omega arith in rw (← e) f.same
