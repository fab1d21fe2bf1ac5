-- An accepted net, as runs know it. Rests on semantics/specs/Plan and net/specs/{Places, Parted}.
use Rattle.std.specs.Prelude.{◌≡◌, List, map, ℕ, length}
use Rattle.semantics.specs.Reading.{read}
use Rattle.semantics.specs.Net.{Transition, Net}
use Rattle.semantics.specs.Plan.{accept_net}
use Rattle.net.specs.Places.{places_at, PlacesFit}
use Rattle.net.specs.Parted.{PartsKept}

-- an accepted net, by the positions of its places and transitions and a table that has room for the parts of all transitions
pub record NetKnown (ws ps transitions parts : List ℕ) (net : Net) : Type 0 where
  pub whole : ℕ
  pub accepted : accept_net ws ≡ read net whole
  pub placed : net.places ≡ places_at ws ps
  pub fits : PlacesFit ws ps
  pub stand : transitions ≡ map (λ (t : Transition). t.position) net.transitions
  pub long : length parts ≡ 2080
  pub kept : PartsKept ws net 0 parts
