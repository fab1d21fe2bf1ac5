-- Values where they stand: those of VALUE words. Rests on semantics/specs/Word.
use Rattle.std.specs.Prelude.{ℕ, zero, suc, ◌+◌, ◌%◌, List, [], ◌∷◌, ℤ, get_or}
use Rattle.semantics.specs.Word.{signed}

-- the values of n VALUE words
unfoldable pub values_at : List ℕ → ℕ → ℕ → List ℤ
values_at ws zero at = []
values_at ws (suc n) at = signed (get_or ws at 0 % 16384) ∷ values_at ws n (at + 1)
