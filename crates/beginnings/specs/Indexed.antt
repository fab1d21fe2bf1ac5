-- Where the entries of places begin in words that are a marking, and the entries of one place passed over. Rests on marking/specs/Marked.
use Rattle.std.specs.Prelude.{◌≡◌, ℕ, ◌+◌, ◌*◌, ◌/◌, ◌%◌, ◌<◌, List, length, get_or}
use Rattle.semantics.specs.Reading.{read}
use Rattle.semantics.specs.Net.{Place}
use Rattle.semantics.specs.Marking.{Entry}
use Rattle.marking.specs.Marked.{marking_read, Begins}

-- words that are a marking
pub record Accepted (places : List Place) (ws : List ℕ) : Type 0 where
  pub entries : List Entry
  pub end : ℕ
  pub marked : marking_read places ws ≡ read entries end

-- the places' beginnings in the marking that the words are
pub record Indexed (places : List Place) (ws begins : List ℕ) : Type 0 where
  pub long : length begins ≡ 65
  pub of : (es : List Entry) (next : ℕ) → marking_read places ws ≡ read es next → Begins places es begins

-- a position after some entries of one place, each of so many words, that stand one behind the other
pub record Passed (ws : List ℕ) (from place size r : ℕ) : Type 0 where
  pub entries : ℕ
  pub there : r ≡ from + entries * size
  pub same : (j : ℕ) → j < entries → (from + j * size < length ws) × (get_or ws (from + j * size) 0 / 16384 % 256 ≡ place)

-- after all of them: none of this place follows
pub record Passes (ws : List ℕ) (from place size r : ℕ) : Type 0 where
  pub passed : Passed ws from place size r
  pub stops : r < length ws → get_or ws r 0 / 16384 % 256 ≡ place → ⊥
