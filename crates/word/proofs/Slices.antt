-- A part of a list by where it begins and how many members it has: cut from the front of the list, or the front of what is behind its beginning.
-- Goes by the beginning.
use mathlib.Core.Path.{◌≡◌}
use mathlib.Core.List.{List, [], ◌∷◌}
use Prim.Native.Nat.{ℕ, zero, suc, ◌+◌}
use native.Mathlib.Omega.{arith}
use lib.ListN.{take, drop}
use lib.Seq.{take-nil, slice}

pub slice-from : {A : Type 0} (k n : ℕ) (l : List A) → slice k (k + n) l ≡ take n (drop k l)
slice-from zero n l = let z : 0 + n ≡ n = omega arith in rw z
slice-from (suc k) n [] = let z : suc k + n ≡ suc (k + n) = omega arith in rw (z, take-nil)
slice-from (suc k) n (x ∷ l) = let z : suc k + n ≡ suc (k + n) = omega arith in rw z (slice-from k n l)
