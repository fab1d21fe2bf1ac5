-- The entries of one place where they stand, and the entry of a colour among them. Rests on marking/specs/Marked.
use Rattle.std.specs.Prelude.{◌≡◌, ℕ, zero, suc, ◌+◌, ◌*◌, ◌<◌, ◌%◌, true, false, List, [], ◌∷◌, ℤ, length, get_or}
use Rattle.semantics.specs.Reading.{read}
use Rattle.semantics.specs.Net.{Place, ranges_at}
use Rattle.semantics.specs.Order.{before}
use Rattle.semantics.specs.Marking.{Entry, key, counts_of}
use Rattle.colours.specs.Values.{values_at}
use Rattle.marking.specs.Marked.{marking_read, position_of, Begins}
use Rattle.counts.specs.declared.find.Spot.{Spot}

-- k entries of a place, of n components each
unfoldable pub block_at : List ℕ → ℕ → ℕ → ℕ → ℕ → List Entry
block_at ws p n zero at = []
block_at ws p n (suc k) at = record { place = p; count = get_or ws at 0 % 16384; colour = values_at ws n (at + 1) } ∷ block_at ws p n k (at + (n + 1))

-- their colours
unfoldable pub colours_at : List ℕ → ℕ → ℕ → ℕ → List (List ℤ)
colours_at ws n zero at = []
colours_at ws n (suc k) at = values_at ws n (at + 1) ∷ colours_at ws n k (at + (n + 1))

-- of k entries from a position on, one that does not stand after a colour, or the first, where the next one, if any, stands after it: so, where
-- their colours rise, the last that does not stand after it, or the first where all do
pub record IsFloor (ws : List ℕ) (n from k : ℕ) (c : List ℤ) (r : ℕ) : Type 0 where
  pub inside : r < k
  pub reached : 0 < r → before c (values_at ws n (from + r * (n + 1) + 1)) ≡ false
  pub passed : r + 1 < k → before c (values_at ws n (from + (r + 1) * (n + 1) + 1)) ≡ true

-- where the entry of a place and colour stands or would stand, and its count, in a marking with these beginnings
pub record IsSpot (ws begins : List ℕ) (p : ℕ) (c : List ℤ) (r : Spot) : Type 0 where
  pub found : (ps : List Place) (es : List Entry) (next : ℕ) → marking_read ps ws ≡ read es next → Begins ps es begins → p < length ps → length (ranges_at ps p) ≡ length c → (r.at ≡ position_of es (key p c)) × (r.count ≡ counts_of es p c)
