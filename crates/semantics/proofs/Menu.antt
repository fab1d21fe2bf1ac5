-- T2: a binding is in the menu exactly when it is in range and enabled; the menu strictly rises; and a strictly rising list with these
-- members is the menu. T4, first half: the enabled leaves of the plan, sorted and without repeats, are the menu.
-- They answer demand 3: each enabled binding exactly once and no other, by rising variable 0, then 1 and on.
-- The idea: all tuples of the ranges rise and are the tuples in range; keeping the enabled ones keeps both; a rising list is known by its members.
use mathlib.Core.Path.{◌≡◌, refl, sym, ap}
use mathlib.Core.Logic.{◌⊎◌, inl, inr, ◌↔◌}
use mathlib.Core.Bool.{true}
use mathlib.Core.List.Memᴰ
use mathlib.Core.List.{List, [], ◌∷◌, map, Memᴰ}
use mathlib.Core.Option.{none, some}
use Prim.Native.Nat.{ℕ}
use lib.IntN.{ℤ}
use Rattle.semantics.specs.Lists.{select}
use Rattle.semantics.specs.Net.{Transition, Net}
use Rattle.semantics.specs.Order.{Rising, insert_all, tuples, in_ranges}
use Rattle.semantics.specs.Plan.{plan_fault}
use Rattle.semantics.specs.Marking.{Counts, Proper}
use Rattle.semantics.specs.Enabling.{Enabled, is_enabled}
use Rattle.semantics.specs.Tries.{Partial, binding_of, leaves}
use Rattle.semantics.specs.Run.{menu}
use Rattle.semantics.proofs.Tests.{selected, select_in}
use Rattle.semantics.proofs.Order.{rising-select, rising_unique}
use Rattle.semantics.proofs.Tuples.{tuples_in, in_tuples, tuples_rise, insert_all-rises, insert_all_in, in_insert_all-new}
use Rattle.semantics.proofs.Enabling.{enabled_sound, enabled_complete}
use Rattle.semantics.proofs.Leaves.{leaf_full, enabled_leaf}

-- in range and enabled, in the sense of source 001
abbrev pub Offered : List ℕ → Transition → Counts → List ℤ → Type 0
Offered table t m b = (in_ranges t.variables b ≡ true) × Enabled table t m b

module _ (table : List ℕ) (t : Transition) (m : Counts) where
  pub menu_members : (b : List ℤ) → Memᴰ b (menu table t m) ↔ Offered table t m b
  unfolding menu
  menu_members b = (
    λ k. let s = selected (is_enabled table t m) (tuples t.variables) k in (tuples_in t.variables b s.0, enabled_sound table t m b s.1),
    λ o. select_in (is_enabled table t m) (in_tuples t.variables b o.0) (enabled_complete table t m b o.1),
  )

  pub menu-rises : Rising (λ b. b) (menu table t m)
  unfolding menu
  menu-rises = rising-select (λ b. b) (is_enabled table t m) (tuples t.variables) (tuples_rise t.variables)

  pub menu_unique : (bs : List (List ℤ)) → Rising (λ b. b) bs → ((b : List ℤ) → Memᴰ b bs ↔ Offered table t m b) → bs ≡ menu table t m
  menu_unique bs r f = rising_unique (λ b. b) bs (menu table t m) r menu-rises (λ b k. (menu_members b).1 ((f b).0 k)) (λ b k. (f b).1 ((menu_members b).0 k))

-- a full binding read back from its partial binding
pub binding-full : (b : List ℤ) → binding_of (map some b) ≡ b
binding-full [] = refl
binding-full (z ∷ zs) = ap (λ (ys : List ℤ). z ∷ ys) (binding-full zs)

-- what a search comes to: the enabled leaves, put in order, each once
abbrev pub found : List ℕ → Net → Transition → Counts → List (List ℤ)
found table net t m = insert_all (select (is_enabled table t m) (map binding_of (leaves table net t m))) []

pub found-menu : (table : List ℕ) (net : Net) (t : Transition) (m : Counts) → plan_fault t [] t.plan ≡ none → Proper net m → found table net t m ≡ menu table t m
found-menu table net t m h proper = menu_unique table t m (found table net t m) (insert_all-rises (select (is_enabled table t m) rows) [] tt) (λ b. (sound b, complete b))
  where
    rows : List (List ℤ)
    rows = map binding_of (leaves table net t m)

    leaf_row : (b : List ℤ) (p : Partial) → (c : List ℤ) × (p ≡ map some c) × (in_ranges t.variables c ≡ true) → binding_of p ≡ b → in_ranges t.variables b ≡ true
    leaf_row b p c e = rw (← e, c.1, binding-full c.0) c.2

    row : (b : List ℤ) → Memᴰ b rows × (is_enabled table t m b ≡ true) → Offered table t m b
    row b s =
        let u = Memᴰ.of_map binding_of (leaves table net t m) s.0 in
        (leaf_row b u.0 (leaf_full table net t m h u.0 u.1) u.2, enabled_sound table t m b s.1)

    sound : (b : List ℤ) → Memᴰ b (found table net t m) → Offered table t m b
    sound b k = by (insert_all_in (select (is_enabled table t m) rows) [] b k)
      where
        by : Memᴰ b (select (is_enabled table t m) rows) ⊎ Memᴰ b [] → Offered table t m b
        by (inl j) = row b (selected (is_enabled table t m) rows j)
        by (inr j) = absurd (Memᴰ.not-nil j)

    complete : (b : List ℤ) → Offered table t m b → Memᴰ b (found table net t m)
    complete b o =
        let k = Memᴰ.map binding_of (enabled_leaf table net t m b h proper o.0 o.1) in
        in_insert_all-new (select (is_enabled table t m) rows) [] b (select_in (is_enabled table t m) (Memᴰ.cast (sym (binding-full b)) k) (enabled_complete table t m b o.1))
