-- Tries held against a budget: within it the search goes on, past it it is exhausted, and each is known from the outcome.
use mathlib.Core.Path.{◌≡◌, sym}
use mathlib.Core.Logic.{◌⊎◌, inl, inr}
use mathlib.Core.Bool.{true, false}
use Prim.Native.Nat.{ℕ, ◌≤◌, ◌<◌}
use native.Mathlib.Omega.{arith}
use borrow.Author.Tests.{le-leb, lt-leb, leb-true, leb-false}
use lib.Dec.{leb}
use Rattle.semantics.proofs.Tests.{either}
use Rattle.rows.specs.Rows.{Listing}
use Rattle.leaves.specs.Leaf.{exhausted, reached, settle}

pub settle_in : (budget t : ℕ) (l : Listing) → t ≤ budget → settle budget t l ≡ reached t l
settle_in budget t l h = rw (le-leb t budget h)

pub settle_past : (budget t : ℕ) (l : Listing) → budget < t → settle budget t l ≡ exhausted
settle_past budget t l h = rw (lt-leb t budget h)

exhausted-reached : {t : ℕ} {l : Listing} {X : Type 0} → exhausted ≡ reached t l → X
exhausted-reached e = let z : ◌≡◌ {A = ℕ} 0 1 = cc in absurd (omega arith)

-- what is known where the search went on
pub record On (budget t u : ℕ) (l k : Listing) : Type 0 where
  pub tries : t ≡ u
  pub listing : l ≡ k
  pub paid : u ≤ budget

pub settled_on : (budget t u : ℕ) (l k : Listing) → reached t l ≡ settle budget u k → On budget t u l k
settled_on budget t u l k e = by (either (leb u budget))
  where
    by : (leb u budget ≡ true) ⊎ (leb u budget ≡ false) → On budget t u l k
    by (inl h) = let f : reached t l ≡ reached u k = rw h at e in record { tries = cc; listing = cc; paid = leb-true u budget h }
    by (inr h) = exhausted-reached (sym (rw h at e))

pub settled_past : (budget u : ℕ) (k : Listing) → exhausted ≡ settle budget u k → budget < u
settled_past budget u k e = by (either (leb u budget))
  where
    by : (leb u budget ≡ true) ⊎ (leb u budget ≡ false) → budget < u
    by (inl h) = exhausted-reached (rw h at e)
    by (inr h) = leb-false u budget h
