-- The words that are written, TOKEN and VALUE, against the fields that are read from them: each word is known by its fields, and the
-- fields of a word are those that it was written with. Each law is arithmetic of the bits. Rests on specs/Word alone.
use mathlib.Core.Path.{◌≡◌, refl}
use mathlib.Core.Bool.{Bool, true, false}
use Prim.Native.Nat.{ℕ, ◌-◌, ◌^◌, ◌≤◌, ◌<◌}
use native.Mathlib.Omega.{arith}
use borrow.Author.Tests.{ltb-true, ltb-false, lt-ltb, le-ltb, leb-true}
use lib.Dec.{ltb}
use lib.IntN.{ℤ, pos, negsuc}
use lib.Signed.{mag, le_z}
use Rattle.semantics.specs.Word.{kind, payload, bits, signed, modulo, Range, within, token_word, value_word}
use Rattle.semantics.proofs.Tests.{false_true, and_left, and_right}

-- ── TOKEN ──

-- a TOKEN without stray bits is the word of its fields
pub token_again : (w : ℕ) → kind w ≡ 0xB → payload w < 2 ^ 22 → token_word (bits 14 21 (payload w)) (bits 0 13 (payload w)) ≡ w
token_again w k h = omega arith

pub token_kind : (p n : ℕ) → p < 2 ^ 8 → n < 2 ^ 14 → kind (token_word p n) ≡ 0xB
token_kind p n h k = omega arith

pub token_stray : (p n : ℕ) → p < 2 ^ 8 → n < 2 ^ 14 → payload (token_word p n) < 2 ^ 22
token_stray p n h k = omega arith

pub token_place : (p n : ℕ) → p < 2 ^ 8 → n < 2 ^ 14 → bits 14 21 (payload (token_word p n)) ≡ p
token_place p n h k = omega arith

pub token_count : (p n : ℕ) → p < 2 ^ 8 → n < 2 ^ 14 → bits 0 13 (payload (token_word p n)) ≡ n
token_count p n h k = omega arith

-- ── VALUE ──

-- a VALUE without stray bits is the word of its value
pub value_again : (w : ℕ) → kind w ≡ 0xC → payload w < 2 ^ 14 → value_word (signed (payload w)) ≡ w
value_again w k h = by (ltb (payload w) 8192) refl
  where
    by : (t : Bool) → ltb (payload w) 8192 ≡ t → value_word (signed (payload w)) ≡ w
    by true e = rw e (omega (arith, ltb-true (payload w) 8192 e))
    by false e = rw e (omega (arith, ltb-false (payload w) 8192 e))

pub modulo_below : (z : ℤ) → modulo z (2 ^ 14) < 2 ^ 14
modulo_below (pos n) = omega arith
modulo_below (negsuc n) = omega arith

pub value-kind : (z : ℤ) → kind (value_word z) ≡ 0xC
value-kind z = let h = modulo_below z in omega arith

pub value-payload : (z : ℤ) → payload (value_word z) ≡ modulo z (2 ^ 14)
value-payload z = let h = modulo_below z in omega arith

-- the fourteen bits of a value from -8,192 to 8,191 say it
pub signed-modulo : (z : ℤ) → mag z < 8192 → signed (modulo z (2 ^ 14)) ≡ z
signed-modulo (pos n) h =
    let e : modulo (pos n) (2 ^ 14) ≡ n = omega arith in
    rw (e, lt-ltb n 8192 h)
signed-modulo (negsuc n) h =
    let e : modulo (negsuc n) (2 ^ 14) ≡ 16383 - n = omega arith in
    let b : 8192 ≤ 16383 - n = omega arith in
    let i : 16383 - (16383 - n) ≡ n = omega arith in
    rw (e, le-ltb (16383 - n) 8192 b, i)

-- a value between two such values is one
pub within-mag : (r : Range) (z : ℤ) → mag r.low < 8192 → mag r.high < 8192 → within r z ≡ true → mag z < 8192
within-mag r z l h w = by r.low r.high z l h (and_left (le_z r.low z) (le_z z r.high) w) (and_right (le_z r.low z) (le_z z r.high) w)
  where
    by : (x y z : ℤ) → mag x < 8192 → mag y < 8192 → le_z x z ≡ true → le_z z y ≡ true → mag z < 8192
    by x (pos b) (pos c) l h p q = let k = leb-true c b q in omega arith
    by x (negsuc b) (pos c) l h p q = false_true q
    by (pos a) y (negsuc c) l h p q = false_true p
    by (negsuc a) y (negsuc c) l h p q = let k = leb-true c a p in omega arith
