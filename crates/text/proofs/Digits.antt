-- Numbers in decimal. The idea: the digits before the last one are those of the tenth part, in one round less.
-- Rests on Putting.
use mathlib.Core.Path.{◌≡◌, refl}
use mathlib.Core.List.{List, [], ◌∷◌}
use Prim.Native.Nat.{ℕ, zero, suc, ◌+◌, ◌*◌, ◌-◌, ◌/◌, ◌%◌, ◌^◌, ◌≤◌, ◌<◌}
use native.Mathlib.Nat.{pow-suc, div-lt_iff_lt-mul}
use native.Mathlib.Omega.{arith}
use borrow.Author.Tests.{lt-ltb, le-ltb}
use Rattle.semantics.specs.Word.{signed}
use Rattle.semantics.specs.Print.{digits_in, decimal, signed_decimal}
use Rattle.text.specs.Put.{Put, Digits}
use Rattle.text.proofs.Putting.{put_then}

pub tenth : (n k : ℕ) → n < 10 ^ suc (suc k) → n / 10 < 10 ^ suc k
tenth n k h = let e = pow-suc 10 (suc k) in let g : n < 10 ^ suc k * 10 = rw (← e) h in (div-lt_iff_lt-mul {k = 10} {x = n} {y = 10 ^ suc k} (omega arith)).1 g

module _ {b c : List ℕ} {at n : ℕ} where
  pub digits_one : {end : ℕ} → n < 10 → Put b at ((48 + n % 10) ∷ []) c end → Digits b at n c end
  unfolding digits_in
  digits_one h p = record { put = λ k g. rw (lt-ltb n 10 h) p }

  pub digits_more : {d : List ℕ} {mid end : ℕ} → 10 ≤ n → Digits b at (n / 10) c mid → Put c mid ((48 + n % 10) ∷ []) d end → Digits b at n d end
  unfolding digits_in
  digits_more {d} {mid} {end} h f p = record { put = by }
    where
      by : (k : ℕ) → n < 10 ^ suc k → Put b at (digits_in (suc k) n) d end
      by zero g = absurd (omega arith)
      by (suc k) g = rw (le-ltb n 10 h) (put_then (f.put k (tenth n k g)) p)

-- ── Values ──

-- the upper half of the fourteen bits
pub value_negative : (u : ℕ) → 8192 ≤ u → u < 16384 → signed_decimal (signed u) ≡ 45 ∷ decimal (16384 - u)
value_negative u h g =
    let e : suc (16383 - u) ≡ 16384 - u = omega arith in
    rw (le-ltb u 8192 h, ← e) refl
