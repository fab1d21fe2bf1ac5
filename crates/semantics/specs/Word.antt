-- 01, "Words": a word's kind and fields, values as 14 bits two's complement, and the words that are written.
-- Rests on nothing.
use Rattle.std.specs.Prelude.{ℕ, suc, ◌+◌, ◌*◌, ◌-◌, ◌/◌, ◌%◌, ◌^◌, Bool, cond, ◌&&◌, List, [], ◌∷◌, leb, ltb, ℤ, pos, negsuc}
use Rattle.std.specs.Int.Signed.{le_z}

-- "The top four bits of a word give its kind"
abbrev pub kind : ℕ → ℕ
kind w = w / 2 ^ 28

-- "28 bits remain, counted from bit 0"
abbrev pub payload : ℕ → ℕ
payload w = w % 2 ^ 28

-- the bits low to high, as the table gives them
abbrev pub bits : ℕ → ℕ → ℕ → ℕ
bits low high w = w / 2 ^ low % 2 ^ (high + 1 - low)

-- "Bits not named are zero": none is set from bit n on
abbrev pub only : ℕ → ℕ → Bool
only n w = ltb w (2 ^ n)

-- low ≤ n ≤ high
abbrev pub between : ℕ → ℕ → ℕ → Bool
between low high n = leb low n && leb n high

-- "A value is 14 bits two's complement, -8,192 to 8,191"; negsuc n is -(n + 1)
abbrev pub signed : ℕ → ℤ
signed u = cond (ltb u 8192) (pos u) (negsuc (16383 - u))

-- the r in 0 to d - 1 that differs from z by a multiple of d > 0
abbrev pub modulo : ℤ → ℕ → ℕ
modulo (pos n) d = n % d
modulo (negsuc n) d = d - suc (n % d)

-- A range of values, as a RANGE word gives it.
pub record Range : Type 0 where
  pub low : ℤ
  pub high : ℤ

abbrev pub within : Range → ℤ → Bool
within r z = le_z r.low z && le_z z r.high

-- "A marking is entries of TOKEN and n VALUEs": these words as they are written
abbrev pub token_word : ℕ → ℕ → ℕ
token_word place count = 0xB * 2 ^ 28 + place * 2 ^ 14 + count

abbrev pub value_word : ℤ → ℕ
value_word z = 0xC * 2 ^ 28 + modulo z (2 ^ 14)

-- "little-endian bytes": four bytes a word, the least significant first; spare bytes are left out
unfoldable pub words_of_bytes : List ℕ → List ℕ
words_of_bytes [] = []
words_of_bytes (a ∷ []) = []
words_of_bytes (a ∷ b ∷ []) = []
words_of_bytes (a ∷ b ∷ c ∷ []) = []
words_of_bytes (a ∷ b ∷ c ∷ d ∷ r) = (a + b * 2 ^ 8 + c * 2 ^ 16 + d * 2 ^ 24) ∷ words_of_bytes r
