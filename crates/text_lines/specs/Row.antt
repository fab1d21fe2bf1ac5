-- A line with the values of VALUE words.
-- Rests on semantics/specs/Print.
use Rattle.std.specs.Prelude.{List, map, ℕ, ◌%◌}
use Rattle.semantics.specs.Word.{signed}
use Rattle.semantics.specs.Print.{line, fields}

-- a line with the values of VALUE words
abbrev pub row_text : List ℕ → List ℕ
row_text ws = line (fields (map (λ w. signed (w % 16384)) ws))
