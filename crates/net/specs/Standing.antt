-- A conjunct or an arc stands at a position: facts of an accepted net, which those who look at its words again rest on.
-- Rests on semantics/specs/ReadNet and Places.
use Rattle.std.specs.Prelude.{◌≡◌, List, ℕ}
use Rattle.semantics.specs.Reading.{read}
use Rattle.semantics.specs.Net.{Arc, Conjunct}
use Rattle.semantics.specs.ReadNet.{read_arc, read_conjunct}
use Rattle.net.specs.Places.{places_at}

-- their variables are below v
pub record HasConjunct (ws : List ℕ) (v at : ℕ) : Type 0 where
  pub conjunct : Conjunct
  pub next : ℕ
  pub reads : read_conjunct ws v at ≡ read conjunct next

-- in a net with its places at the positions ps
pub record HasArc (ws ps : List ℕ) (v at : ℕ) : Type 0 where
  pub arc : Arc
  pub next : ℕ
  pub reads : read_arc ws (places_at ws ps) v at ≡ read arc next
