-- 01, "Calls": "Fire: writes the new marking to a second buffer and answers its length; words beyond stay". The new marking is the old one
-- with some counts set, written in one pass. Rests on semantics/specs/Marking and marking/specs/Marked.
use Rattle.std.specs.Prelude.{◌≡◌, ℕ, ◌+◌, ◌≤◌, cond, eqb, ltb, ℤ, length, take, drop}
use mathlib.Core.List.{List, [], ◌∷◌, ◌++◌, Memᴰ}
use Rattle.std.proofs.Math.Seq.{slice}
use Rattle.semantics.specs.Lists.{Every}
use Rattle.semantics.specs.Net.{Net}
use Rattle.semantics.specs.Order.{Rising}
use Rattle.semantics.specs.Marking.{Entry, key, Counts, Proper, counts_of, entry_words}
use Rattle.marking.specs.Marked.{position_of}

-- A place and colour whose count is set: where its entry stands or would stand in the old marking, the words of its old entry (0 where
-- there is none), its new count.
pub record Change : Type 0 where
  pub place : ℕ
  pub colour : List ℤ
  pub count : ℕ
  pub at : ℕ
  pub old : ℕ

-- "strictly rising by place, then by components": where a change stands in that order
abbrev pub change_key : Change → List ℤ
change_key t = key t.place t.colour

-- the words of the old marking from the position `src` on, with the changes made; "counts of 0 left out"
unfoldable pub patched : List ℕ → ℕ → List Change → List ℕ
patched ws src [] = drop src ws
patched ws src (t ∷ ts) = slice src t.at ws ++ (entry_words t.place t.colour t.count ++ patched ws (t.at + t.old) ts)

-- the words of the old entries that are changed, and of the entries that take their place
unfoldable pub old_length : List Change → ℕ
old_length [] = 0
old_length (t ∷ ts) = t.old + old_length ts

unfoldable pub new_length : List Change → ℕ
new_length [] = 0
new_length (t ∷ ts) = length (entry_words t.place t.colour t.count) + new_length ts

-- the same of the places below p: by so much the entries of p begin sooner and later
unfoldable pub old_below : ℕ → List Change → ℕ
old_below p [] = 0
old_below p (t ∷ ts) = cond (ltb t.place p) t.old 0 + old_below p ts

unfoldable pub new_below : ℕ → List Change → ℕ
new_below p [] = 0
new_below p (t ∷ ts) = cond (ltb t.place p) (length (entry_words t.place t.colour t.count)) 0 + new_below p ts

-- ── When the changes are those that lead to other counts ──

-- a change tells where its entry is among the old ones, and its count among the new ones
pub record Told (es : List Entry) (m' : Counts) (t : Change) : Type 0 where
  pub at : t.at ≡ position_of es (change_key t)
  pub old : t.old ≡ cond (eqb (counts_of es t.place t.colour) 0) 0 (1 + length t.colour)
  pub count : t.count ≡ m' t.place t.colour

-- no change has this key
abbrev pub Untouched : List Change → List ℤ → Type 0
Untouched ts k = (t : Change) → Memᴰ t ts → change_key t ≡ k → ⊥

-- the changes lead from a marking's entries to the counts m' on a net
pub record Changing (net : Net) (es : List Entry) (m' : Counts) (ts : List Change) : Type 0 where
  pub rises : Rising change_key ts
  pub told : Every (Told es m') ts
  pub kept : (p : ℕ) (c : List ℤ) → Untouched ts (key p c) → m' p c ≡ counts_of es p c
  pub proper : Proper net m'

-- ── What the code holds ──

-- the old entries of the changes lie in `end` words, each after the one before it, the first from `src` on
abbrev pub Apart : ℕ → ℕ → List Change → Type 0
Apart end src [] = src ≤ end
Apart end src (t ∷ ts) = (src ≤ t.at) × (t.at + t.old ≤ end) × Apart end (t.at + t.old) ts

pub record InOrder (ws : List ℕ) (src : ℕ) (ts : List Change) : Type 0 where
  pub apart : Apart (length ws) src ts

-- words with others written over them from a position on; "words beyond stay"
abbrev pub written : List ℕ → ℕ → List ℕ → List ℕ
written d at xs = take at d ++ xs ++ drop (at + length xs) d
