-- The plain run as one claim over its whole list of picks: a run of p ++ q is the run of p and then, where none was refused, the run of q
-- from where it ended; a refused pick ends the run. It answers demand 3's reach: no pick is looked at by itself.
-- The idea: a run goes on by its first pick alone, and a refusal has a number that is not 0.
use mathlib.Core.Path.{◌≡◌, refl, sym, ap}
use mathlib.Core.Bool.{Bool, true, false, cond}
use mathlib.Core.List.{List, [], ◌∷◌, ◌++◌}
use mathlib.Core.Option.{Option, none, some}
use Prim.Native.Nat.{ℕ, ◌+◌, ◌≤◌}
use native.Mathlib.Omega.{arith}
use borrow.Author.Tests.{ne_eqb}
use lib.Dec.{eqb, leb}
use lib.IntN.{ℤ}
use lib.ListN.{get_elem?}
use Rattle.semantics.specs.Refusal.{over_budget, over_menu, over_room}
use Rattle.semantics.specs.Net.{Transition, Net}
use Rattle.semantics.specs.Marking.{Counts, pick_transition, pick_index}
use Rattle.semantics.specs.Enabling.{Firing, moved, stopped, occur}
use Rattle.semantics.specs.Tries.{all_tries}
use Rattle.semantics.specs.Run.{menu, offered, withheld, menu_fits, offer, has_room, roomed, fire, Limits, fire_at, pick_from, pick_of, pick, End, go_on, plain_run}
use Rattle.semantics.proofs.Step.{Occurrence, blocked, undelivered, overfull, stepped, occur_cases}

-- ── A refusal is not 0 ──

-- a stop has a number of at least 1
abbrev pub Numbered : Firing → Type 0
Numbered (moved m) = Unit {0}
Numbered (stopped n) = 1 ≤ n

module _ (table : List ℕ) (net : Net) (t : Transition) (m : Counts) where
  occurrence_numbered : {b : List ℤ} {x : Firing} → Occurrence table net t m b x → Numbered x
  occurrence_numbered (blocked e) = omega arith
  occurrence_numbered (undelivered e d) = omega arith
  occurrence_numbered (overfull e d w) = omega arith
  occurrence_numbered (stepped e d w) = tt

  fire-numbered : (room : ℕ) (b : List ℤ) → Numbered (fire table net room t m b)
  unfolding fire
  fire-numbered room b = by (occur table net t m b) (occurrence_numbered (occur_cases table net t m b))
    where
      tested : (r : Bool) (m' : Counts) → Numbered (cond r (moved m') (stopped over_room))
      tested true m' = tt
      tested false m' = omega arith

      by : (x : Firing) → Numbered x → Numbered (roomed net room x)
      by (moved m') h = tested (has_room net room m') m'
      by (stopped n) h = h

  offer-numbered : (l : Limits) (index : ℕ) → Numbered (pick_from table net l t m index (offer table net l.budget l.menu_room t m))
  unfolding offer
  offer-numbered l index = by (leb (all_tries table net t m) l.budget) (menu_fits t l.menu_room (menu table t m))
    where
      at : (o : Option (List ℤ)) → Numbered (fire_at table net l t m o)
      at none = omega arith
      at (some b) = fire-numbered l.room b

      by : (p q : Bool) → Numbered (pick_from table net l t m index (cond p (cond q (offered (menu table t m) (all_tries table net t m)) (withheld over_menu)) (withheld over_budget)))
      by true true = at (get_elem? (menu table t m) index)
      by true false = omega arith
      by false q = omega arith

module _ (table : List ℕ) (net : Net) (l : Limits) where
  pub pick-numbered : (m : Counts) (w : ℕ) → Numbered (pick table net l m w)
  unfolding pick
  pick-numbered m w = by (get_elem? net.transitions (pick_transition w))
    where
      by : (o : Option Transition) → Numbered (pick_of table net l m (pick_index w) o)
      by none = omega arith
      by (some t) = offer-numbered table net t m l (pick_index w)

  -- where a run that ended so goes on: only one that was not refused
  abbrev pub further : End → List ℕ → End
  further e q = cond (eqb e.refusal 0) (plain_run table net l e.counts e.done q) e

  -- a run of two lists, one after the other
  pub run_append : (p q : List ℕ) (m : Counts) (done : ℕ) → plain_run table net l m done (p ++ q) ≡ further (plain_run table net l m done p) q
  unfolding plain_run
  run_append [] q m done = refl
  run_append (w ∷ p) q m done = by (pick table net l m w) (pick-numbered m w) (λ m'. run_append p q m' (done + 1))
    where
      by : (x : Firing) → Numbered x → ((m' : Counts) → plain_run table net l m' (done + 1) (p ++ q) ≡ further (plain_run table net l m' (done + 1) p) q) → go_on m done x (λ m'. plain_run table net l m' (done + 1) (p ++ q)) ≡ further (go_on m done x (λ m'. plain_run table net l m' (done + 1) p)) q
      by (moved m') h f = f m'
      by (stopped n) h f = sym (ap (λ (t : Bool). cond t (plain_run table net l m done q) (record { counts = m; done = done; refusal = n })) (ne_eqb n 0 (λ e. omega arith)))

  -- a refused pick ends the run, with the counts and the picks done before it
  pub run_refused : (m : Counts) (done w n : ℕ) (ws : List ℕ) → pick table net l m w ≡ stopped n → plain_run table net l m done (w ∷ ws) ≡ record { counts = m; done = done; refusal = n }
  unfolding plain_run
  run_refused m done w n ws e = rw e

  -- a pick that fires goes on from the new counts
  pub run_fired : (m m' : Counts) (done w : ℕ) (ws : List ℕ) → pick table net l m w ≡ moved m' → plain_run table net l m done (w ∷ ws) ≡ plain_run table net l m' (done + 1) ws
  unfolding plain_run
  run_fired m m' done w ws e = rw e
