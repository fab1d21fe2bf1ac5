-- The first word that passes a test, as the library and as the definition have it.
use mathlib.Core.Path.{◌≡◌, refl}
use Prim.Native.Nat.compare.{suc-suc}
use Prim.Native.Nat.{ℕ, suc, ◌+◌}
use mathlib.Core.Bool.{Bool, true, false, cond}
use mathlib.Core.List.{List, [], ◌∷◌}
use borrow.Author.Tests.{lt-ltb}
use native.Mathlib.Omega.{arith}
use lib.Dec.{ltb}
use lib.ListN.{length}
use Rattle.std.specs.List.{position_or_len, position}
use Rattle.std.specs.Prelude.{Some, None}
use Rattle.semantics.specs.Answer.{option_of}
use Rattle.semantics.specs.Marking.{first_that}

-- the first place at which a test passes, as the library has it
first-at : (p : ℕ → Bool) (ws : List ℕ) (at : ℕ) → option_of (cond (ltb (position_or_len p ws) (length ws)) (Some (at + position_or_len p ws)) None) ≡ first_that p ws at
unfolding first_that
first-at p [] at = refl
first-at p (w ∷ ws) at = by (p w) refl (first-at p ws (at + 1))
  where
    by : (t : Bool) → p w ≡ t → option_of (cond (ltb (position_or_len p ws) (length ws)) (Some (at + 1 + position_or_len p ws)) None) ≡ first_that p ws (at + 1)
        → option_of (cond (ltb (position_or_len p (w ∷ ws)) (suc (length ws))) (Some (at + position_or_len p (w ∷ ws))) None) ≡ first_that p (w ∷ ws) at
    by true e h =
        let l = lt-ltb 0 (suc (length ws)) (omega arith) in
        let z : at + 0 ≡ at = omega arith in
        rw (e, l, z) refl
    by false e h =
        let s : at + (1 + position_or_len p ws) ≡ at + 1 + position_or_len p ws = omega arith in
        let u : 1 + position_or_len p ws ≡ suc (position_or_len p ws) = omega arith in
        rw (e, s, u, suc-suc) h

pub first_lem : (p : ℕ → Bool) (ws : List ℕ) → option_of (position p ws) ≡ first_that p ws 0
first_lem p ws = let s : 0 + position_or_len p ws ≡ position_or_len p ws = omega arith in rw s at (first-at p ws 0)
