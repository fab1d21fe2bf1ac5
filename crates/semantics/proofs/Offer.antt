-- When a menu is offered: the budget covers its tries and it fits, and then it is the whole menu with its W.
-- The two tests of `offer` are taken apart in their order, 10 before 11.
use mathlib.Core.Path.{◌≡◌}
use mathlib.Core.Logic.{◌⊎◌, inl, inr}
use mathlib.Core.Bool.{true, false}
use mathlib.Core.List.{List}
use Prim.Native.Nat.{ℕ}
use native.Mathlib.Omega.{arith}
use lib.Dec.{leb}
use lib.IntN.{ℤ}
use Rattle.semantics.specs.Net.{Transition, Net}
use Rattle.semantics.specs.Marking.{Counts}
use Rattle.semantics.specs.Tries.{all_tries}
use Rattle.semantics.specs.Run.{menu, offered, withheld, menu_fits, offer}
use Rattle.semantics.proofs.Tests.{either}

module _ (table : List ℕ) (net : Net) (budget room : ℕ) (t : Transition) (m : Counts) where
  pub record Made (bs : List (List ℤ)) (w : ℕ) : Type 0 where
    pub whole : bs ≡ menu table t m
    pub counted : w ≡ all_tries table net t m
    pub paid : leb (all_tries table net t m) budget ≡ true
    pub fits : menu_fits t room (menu table t m) ≡ true

  withheld-offered : {n w : ℕ} {bs : List (List ℤ)} {X : Type 0} → withheld n ≡ offered bs w → X
  withheld-offered e = let z : ◌≡◌ {A = ℕ} 0 1 = cc in absurd (omega arith)

  pub offer-made : (bs : List (List ℤ)) (w : ℕ) → offer table net budget room t m ≡ offered bs w → Made bs w
  unfolding offer
  offer-made bs w h = by (either (leb (all_tries table net t m) budget)) (either (menu_fits t room (menu table t m)))
    where
      by : (leb (all_tries table net t m) budget ≡ true) ⊎ (leb (all_tries table net t m) budget ≡ false) → (menu_fits t room (menu table t m) ≡ true) ⊎ (menu_fits t room (menu table t m) ≡ false) → Made bs w
      by (inl p) (inl q) =
          let e : offered (menu table t m) (all_tries table net t m) ≡ offered bs w = rw (p, q) at h in
          record { whole = cc; counted = cc; paid = p; fits = q }
      by (inl p) (inr q) = withheld-offered (rw (p, q) at h)
      by (inr p) q = withheld-offered (rw p at h)

  pub made-offer : leb (all_tries table net t m) budget ≡ true → menu_fits t room (menu table t m) ≡ true → offer table net budget room t m ≡ offered (menu table t m) (all_tries table net t m)
  unfolding offer
  made-offer p q = rw (p, q)
