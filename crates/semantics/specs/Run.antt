-- 01, "Calls" and "The plain run": the menu, refusals 10 to 12 and 16, and the plain run on counts.
-- Rests on Enabling and Tries.
use Rattle.std.specs.Prelude.{ℕ, ◌+◌, ◌*◌, Bool, cond, ◌&&◌, List, [], ◌∷◌, leb, ℤ, length}
use Rattle.std.proofs.Math.Option.{Option, none, some}
use Rattle.std.proofs.Math.ListN.{get_elem?}
use Rattle.semantics.specs.Refusal.{over_budget, over_menu, no_such_index, over_room, no_transition, most_words, most_bindings}
use Rattle.semantics.specs.Lists.{select}
use Rattle.semantics.specs.Net.{Transition, Net}
use Rattle.semantics.specs.Order.{tuples}
use Rattle.semantics.specs.Marking.{Counts, marking_words, pick_transition, pick_index}
use Rattle.semantics.specs.Enabling.{is_enabled, Firing, moved, stopped, occur}
use Rattle.semantics.specs.Tries.{all_tries}

-- 01's menu, the list of enabled bindings: "all bindings of the pick's transition, keeps those enabled under its counts .. by rising variable 0"
unfoldable pub menu : List ℕ → Transition → Counts → List (List ℤ)
menu table t m = select (is_enabled table t m) (tuples t.variables)

-- a menu with its W, or a refusal's number
pub data Offer : Type 0 where
  offered : List (List ℤ) → ℕ → Offer
  withheld : ℕ → Offer

-- "N over 16,383, or N × V words over the menu buffer", which has `room` words
abbrev pub menu_fits : Transition → ℕ → List (List ℤ) → Bool
menu_fits t room bs = leb (length bs) most_bindings && leb (length bs * length t.variables) room

-- 10, then 11
unfoldable pub offer : List ℕ → Net → ℕ → ℕ → Transition → Counts → Offer
offer table net budget room t m =
    cond (leb (all_tries table net t m) budget) (cond (menu_fits t room (menu table t m)) (offered (menu table t m) (all_tries table net t m)) (withheld over_menu)) (withheld over_budget)

-- 16: "over its room or 16,384 words"
abbrev pub has_room : Net → ℕ → Counts → Bool
has_room net room m = leb (length (marking_words net m)) room && leb (length (marking_words net m)) most_words

abbrev pub roomed : Net → ℕ → Firing → Firing
roomed net room (moved m) = cond (has_room net room m) (moved m) (stopped over_room)
roomed net room (stopped n) = stopped n

-- 13, then 14, 15 and 16
unfoldable pub fire : List ℕ → Net → ℕ → Transition → Counts → List ℤ → Firing
fire table net room t m b = roomed net room (occur table net t m b)

-- What a run is handed beside marking and picks: budget, length of the menu buffer, room for a marking.
pub record Limits : Type 0 where
  pub budget : ℕ
  pub menu_room : ℕ
  pub room : ℕ

-- 12: "pick index not below N"
abbrev pub fire_at : List ℕ → Net → Limits → Transition → Counts → Option (List ℤ) → Firing
fire_at table net l t m none = stopped no_such_index
fire_at table net l t m (some b) = fire table net l.room t m b

abbrev pub pick_from : List ℕ → Net → Limits → Transition → Counts → ℕ → Offer → Firing
pick_from table net l t m index (withheld n) = stopped n
pick_from table net l t m index (offered bs w) = fire_at table net l t m (get_elem? bs index)

abbrev pub pick_of : List ℕ → Net → Limits → Counts → ℕ → Option Transition → Firing
pick_of table net l m index none = stopped no_transition
pick_of table net l m index (some t) = pick_from table net l t m index (offer table net l.budget l.menu_room t m)

-- "A pick fires the binding at its index in its transition's menu; each pick has the whole budget."
unfoldable pub pick : List ℕ → Net → Limits → Counts → ℕ → Firing
pick table net l m w = pick_of table net l m (pick_index w) (get_elem? net.transitions (pick_transition w))

-- where a run ends: counts, picks done, and the refusal that stopped it or 0
pub record End : Type 0 where
  pub counts : Counts
  pub done : ℕ
  pub refusal : ℕ

-- "A stop changes neither counts nor picks done, and later picks aren't looked at."
abbrev pub go_on : Counts → ℕ → Firing → (Counts → End) → End
go_on m done (moved m') k = k m'
go_on m done (stopped n) k = record { counts = m; done = done; refusal = n }

-- 01's plain run, from counts and picks done
unfoldable pub plain_run : List ℕ → Net → Limits → Counts → ℕ → List ℕ → End
plain_run table net l m done [] = record { counts = m; done = done; refusal = 0 }
plain_run table net l m done (w ∷ ws) = go_on m done (pick table net l m w) (λ m'. plain_run table net l m' (done + 1) ws)
