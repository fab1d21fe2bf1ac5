-- An expression passed over: its reading without the tree.
-- Rests on semantics/specs/ReadNet and Head.
use Rattle.std.specs.Prelude.{◌≡◌, List, ℕ, ◌+◌, ◌≤◌, ◌<◌, length, Result, Ok, Err}
use Rattle.semantics.specs.declared.refusal.Refusal.{Refusal}
use Rattle.semantics.specs.Refusal.{most_words, most_expression_words}
use Rattle.semantics.specs.Reading.{Reading, read, refused}
use Rattle.semantics.specs.Answer.{refusing}
use Rattle.semantics.specs.ReadNet.{expression_in}
use Rattle.expression.specs.Head.{Onward}

-- a reading without what was read
abbrev pub forget : {A : Type 0} → Reading A → Reading (Unit {0})
forget (read a next) = read tt next
forget (refused n p) = refused n p

-- the position after something that was passed over, or its refusal
abbrev pub skipped : Result ℕ Refusal → Reading (Unit {0})
skipped (Ok next) = read tt next
skipped (Err e) = refusing e

-- the position after an expression: it takes one to fifteen words, all of them among the first 16,384
pub record Ahead (ws : List ℕ) (at next : ℕ) : Type 0 where
  pub later : at < next
  pub short : next ≤ at + most_expression_words
  pub in_words : next ≤ length ws
  pub in_limit : next ≤ most_words

abbrev pub Skips : List ℕ → ℕ → Result ℕ Refusal → Type 0
Skips ws at (Ok next) = Ahead ws at next
Skips ws at (Err e) = Unit {0}

-- ── With the words left ──

abbrev pub passed : Result (ℕ × ℕ) Refusal → Reading (Unit {0})
passed (Ok r) = read tt r.0
passed (Err e) = refusing e

abbrev pub Passes : List ℕ → ℕ → ℕ → Result (ℕ × ℕ) Refusal → Type 0
Passes ws at left (Ok r) = Onward ws at left r.0 r.1
Passes ws at left (Err e) = Unit {0}

-- the reading by any number of rounds above the words left
pub record IsPassed (ws : List ℕ) (variables at left : ℕ) (r : Result (ℕ × ℕ) Refusal) : Type 0 where
  pub same : (rounds stop : ℕ) → left < rounds → at + left ≡ stop → passed r ≡ forget (expression_in rounds ws variables stop at)
  pub onward : Passes ws at left r
