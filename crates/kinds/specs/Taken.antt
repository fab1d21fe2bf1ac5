-- A word taken from a net: the test that it passes by itself, by the code of its kind, and what the code answers. Rests on semantics.
use Rattle.std.specs.Prelude.{◌≡◌, ℕ, ◌+◌, ◌<◌, Bool, true, cond, Result, Ok, Err, ◌&&◌, List, leb, eqb, length}
use Rattle.std.specs.Int.Signed.{le_z}
use Rattle.semantics.specs.Refusal.{most_words}
use Rattle.semantics.specs.Word.{bits, only, between, signed}
use Rattle.semantics.specs.Reading.{Reading, read, word}
use Rattle.semantics.specs.ReadNet.{net_word, transition_word}
use Rattle.semantics.specs.declared.refusal.Refusal.{Refusal}
use Rattle.semantics.specs.Answer.{refusing}

-- "low ≤ high"
abbrev pub range_word : ℕ → Bool
range_word p = le_z (signed (bits 14 27 p)) (signed (bits 0 13 p))

-- the test that a word of a kind passes by itself, by the kind's code
unfoldable pub fits_kind : ℕ → ℕ → Bool
fits_kind k p =
    cond (eqb k 1) (net_word p)
    (cond (eqb k 2) (between 1 4 p)
    (cond (eqb k 3) (range_word p)
    (cond (eqb k 4) (transition_word p)
    (cond (eqb k 6) (only 2 p)
    (cond (eqb k 0xA) (only 10 p && leb (bits 8 9 p) 2) true)))))

-- the word taken at a position
abbrev pub taken : ℕ → Result ℕ Refusal → Reading ℕ
taken at (Ok p) = read p (at + 1)
taken at (Err e) = refusing e

-- a word that was taken exists and passes its test
pub record Exists (ws : List ℕ) (at k p : ℕ) : Type 0 where
  pub in_words : at < length ws
  pub in_limit : at < most_words
  pub fits : fits_kind k p ≡ true

abbrev pub Takes : List ℕ → ℕ → ℕ → Result ℕ Refusal → Type 0
Takes ws at k (Ok p) = Exists ws at k p
Takes ws at k (Err e) = Unit {0}

pub record IsTaken (ws : List ℕ) (at k : ℕ) (r : Result ℕ Refusal) : Type 0 where
  pub same : taken at r ≡ word ws k (fits_kind k) at
  pub exists : Takes ws at k r
