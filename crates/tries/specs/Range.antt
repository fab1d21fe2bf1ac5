-- The values of a range by the 14 bits of its ends.
-- Rests on semantics/specs/Order and word/specs/Fields.
use Rattle.std.specs.Prelude.{◌≡◌, true, List, [], ◌∷◌, ℕ, zero, suc, ◌+◌, ◌≤◌, ◌/◌, ◌%◌, ℤ, length}
use Rattle.std.specs.Int.Signed.{le_z}
use Rattle.semantics.specs.Word.{signed}
use Rattle.semantics.specs.Order.{values_of_range}
use Rattle.word.specs.Fields.{range_word}

-- the value that is i above the low end of a RANGE word
abbrev pub value_at : ℕ → ℕ → ℤ
value_at w i = signed ((w / 16384 % 16384 + i) % 16384)

-- the number of values of a RANGE word whose low end is at most its high end
pub record CountsValues (w r : ℕ) : Type 0 where
  pub few : r ≤ 16384
  pub counts : le_z (range_word w).low (range_word w).high ≡ true → r ≡ length (values_of_range (range_word w))

-- so many numbers from i on
unfoldable pub up_from : ℕ → ℕ → List ℕ
up_from i zero = []
up_from i (suc n) = i ∷ up_from (suc i) n
