-- Colours as numbers: a digit of 14 bits for each component, the first one highest. Codes of one width stand to each other as their colours
-- do (proofs/Codes). Rests on semantics/specs/Word.
use Rattle.std.specs.Prelude.{◌≡◌, ℕ, zero, suc, ◌-◌, ◌/◌, ◌%◌, ◌<◌, ◌^◌, cond, List, [], ◌∷◌, ◌++◌, ltb, ℤ, pos, negsuc}
use Rattle.semantics.specs.Word.{signed}

-- the value of a digit, which is 8,192 less; negsuc n is -(n + 1)
abbrev pub of_digit : ℕ → ℤ
of_digit d = cond (ltb d 8192) (negsuc (8191 - d)) (pos (d - 8192))

-- the colour of n components that a code stands for
unfoldable pub coloured : ℕ → ℕ → List ℤ
coloured zero code = []
coloured (suc n) code = coloured n (code / 16384) ++ (of_digit (code % 16384) ∷ [])

-- the code of a colour of n components
pub record IsCode (n : ℕ) (c : List ℤ) (code : ℕ) : Type 0 where
  pub same : coloured n code ≡ c
  pub small : code < 16384 ^ n

-- a code with the digit of the VALUE word w behind it
pub record IsBehind (code w r : ℕ) : Type 0 where
  pub behind : {n : ℕ} {c : List ℤ} → IsCode n c code → IsCode (suc n) (c ++ (signed (w % 16384) ∷ [])) r
