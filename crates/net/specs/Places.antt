-- The places of a net by the positions of their words: their ranges where they stand, and that they stand whole in the words.
-- proofs/Placed.antt shows that they are the places that semantics reads. Rests on semantics/specs/Net.
use Rattle.std.specs.Prelude.{ℕ, zero, suc, ◌+◌, ◌≤◌, List, [], ◌∷◌, map, length, get_or}
use Rattle.semantics.specs.Lists.{Every}
use Rattle.semantics.specs.Word.{payload, Range}
use Rattle.semantics.specs.Net.{Place}
use Rattle.word.specs.Fields.{range_word}

-- the ranges of so many RANGE words
unfoldable pub ranges_from : List ℕ → ℕ → ℕ → List Range
ranges_from ws zero at = []
ranges_from ws (suc n) at = range_word (get_or ws at 0) ∷ ranges_from ws n (at + 1)

-- the components that the PLACE word at a position tells
abbrev pub width_at : List ℕ → ℕ → ℕ
width_at ws at = payload (get_or ws at 0)

-- the place at a position
abbrev pub place_at : List ℕ → ℕ → Place
place_at ws at = record { position = at; ranges = ranges_from ws (width_at ws at) (at + 1) }

unfoldable pub places_at : List ℕ → List ℕ → List Place
places_at ws ats = map (place_at ws) ats

-- a place stands whole in the words, and has at most four components
pub record PlaceFits (ws : List ℕ) (at : ℕ) : Type 0 where
  pub inside : at + 1 + width_at ws at ≤ length ws
  pub narrow : width_at ws at ≤ 4

-- so do all places, at most 64
pub record PlacesFit (ws ats : List ℕ) : Type 0 where
  pub each : Every (PlaceFits ws) ats
  pub few : length ats ≤ 64
