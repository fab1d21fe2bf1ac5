-- The positions of the input arcs that leaves look up, kept for the transitions of a net: nine numbers for each, up to eight positions and how many of them
-- count. Rests on net/specs/{Places, Parted} and spares/specs/Spare.
use Rattle.std.specs.Prelude.{◌≡◌, List, ℕ, ◌*◌, ◌≤◌, ◌<◌, length, get_or, take, drop}
use Rattle.net.specs.Places.{PlacesFit}
use Rattle.net.specs.Parted.{inputs_in, plan_in, FewParts}
use Rattle.spares.specs.Spare.{Within, Unspared}

-- the nine numbers of a transition may be made out, by its TRANSITION word and its 32 positions
pub record Restable (ws ps : List ℕ) (head : ℕ) (own : List ℕ) : Type 0 where
  pub fits : PlacesFit ws ps
  pub few : FewParts head
  pub long : length own ≡ 32
  pub within : Within ws ps (inputs_in head own) (plan_in head own)

-- the nine numbers of a transition
pub record Rest (ws ps : List ℕ) (head : ℕ) (own row : List ℕ) : Type 0 where
  pub long : length row ≡ 9
  pub few : get_or row 8 0 ≤ 8
  pub unspared : Unspared ws ps (inputs_in head own) (plan_in head own) (take (get_or row 8 0) row)

-- those of the first n transitions stand in a table one after the other
pub record RestsKept (ws ps transitions parts : List ℕ) (n : ℕ) (table : List ℕ) : Type 0 where
  pub long : length table ≡ 576
  pub each : (t : ℕ) → t < n → Rest ws ps (get_or ws (get_or transitions t 0) 0) (take 32 (drop (t * 32) parts)) (take 9 (drop (t * 9) table))
