-- Fields: bits from 0 on, the two halves of the 14 bits of a value, and values in the range of a RANGE word.
-- What written words read as stands in semantics/proofs/Words.
use mathlib.Core.Path.{◌≡◌, refl}
use mathlib.Core.Bool.{true}
use Prim.Native.Nat.{ℕ, ◌+◌, ◌-◌, ◌/◌, ◌%◌, ◌^◌, ◌≤◌, ◌<◌}
use native.Mathlib.Omega.{arith}
use lib.Dec.{ltb}
use lib.IntN.{ℤ, pos, negsuc}
use lib.Signed.{mag}
use borrow.Author.Tests.{lt-ltb, le-ltb}
use Rattle.semantics.proofs.Tests.{cond_true, cond_false}
use Rattle.semantics.proofs.Words.{within-mag}
use Rattle.semantics.proofs.Accepted.{signed-small}
use Rattle.semantics.specs.Word.{bits, signed, within}
use Rattle.word.specs.Fields.{range_word}

-- ── Fields ──

-- bits from 0 on are a remainder
pub bits-low : (high w : ℕ) → bits 0 high w ≡ w % 2 ^ (high + 1)
bits-low high w =
    let e : w / 1 ≡ w = omega arith in
    let d : high + 1 - 0 ≡ high + 1 = omega arith in
    rw (e, d) refl

-- the two halves of 14 bits
pub signed_low : (u : ℕ) → u < 8192 → signed u ≡ pos u
signed_low u h = cond_true (ltb u 8192) (pos u) (negsuc (16383 - u)) (lt-ltb u 8192 h)

pub signed_high : (u : ℕ) → 8192 ≤ u → signed u ≡ negsuc (16383 - u)
signed_high u h = cond_false (ltb u 8192) (pos u) (negsuc (16383 - u)) (le-ltb u 8192 h)

-- a value in the range of a RANGE word has 14 bits
pub range_small : (w : ℕ) (z : ℤ) → within (range_word w) z ≡ true → mag z < 8192
range_small w z e = within-mag (range_word w) z (signed-small (bits 14 27 w) (omega arith)) (signed-small (bits 0 13 w) (omega arith)) e
