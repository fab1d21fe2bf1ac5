-- A range of the code, read as the semantics' range; and what a VALUE word is.
-- Rests on semantics/specs/Word.
use Rattle.std.specs.Prelude.{◌≡◌, ℕ, ◌%◌, ℤ}
use Rattle.semantics.specs.Word as word
use Rattle.semantics.specs.Word.{bits, signed, value_word}
use Rattle.word.specs.declared.fields.Range.{Range}

abbrev pub ends : ℤ → ℤ → word.Range
ends low high = record { low = low; high = high }

abbrev pub range : Range → word.Range
range r = ends r.low r.high

-- "RANGE: 14-27 low value, 0-13 high value"
abbrev pub range_word : ℕ → word.Range
range_word w = ends (signed (bits 14 27 w)) (signed (bits 0 13 w))

-- a word is the VALUE word of its value
abbrev pub IsValue : ℕ → Type 0
IsValue w = value_word (signed (w % 16384)) ≡ w
