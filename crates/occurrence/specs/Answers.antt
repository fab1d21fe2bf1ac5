-- What the answers of src/ say: by the counts of a marking that was read, with the beginnings of its places.
-- Rests on arcs/specs/{Flow, Keys}, gathering/specs/Gather and marking/specs/Marked.
use Rattle.std.specs.Prelude.{◌≡◌, Bool, true, ◌&&◌, List, ℕ, ◌-◌, leb, eqb, get_or}
use Rattle.semantics.specs.Reading.{read}
use Rattle.semantics.specs.Net.{Place}
use Rattle.semantics.specs.Marking.{Entry, counts_of}
use Rattle.semantics.specs.Enabling.{covers, covers_all}
use Rattle.net.specs.Places.{places_at}
use Rattle.marking.specs.Marked.{marking_read, Begins}
use Rattle.arcs.specs.Flow.{flows_at}
use Rattle.guards.specs.Guard.{guard_at}
use Rattle.arcs.specs.Keys.{key_flows}
use Rattle.gathering.specs.declared.gather.Gathered.{Gathered}
use Rattle.gathering.specs.Gather.{IsGathered}

-- the key at an index is the one before it again
abbrev pub is_repeated : List ℕ → ℕ → Bool
is_repeated keys i = leb 1 i && eqb (get_or keys (i - 1) 0) (get_or keys i 0)

-- the amounts of keys are covered
pub record IsCovered (ws ps keys amounts ms begins : List ℕ) (r : Bool) : Type 0 where
  pub covered : (places : List Place) → places ≡ places_at ws ps → (es : List Entry) (next : ℕ) → marking_read places ms ≡ read es next → Begins places es begins → r ≡ covers (counts_of es) (key_flows ws ps keys amounts)

-- "A binding is enabled when ..", told from positions
pub record IsEnabledAt (ws ps conjuncts inputs ms begins bs : List ℕ) (r : Bool) : Type 0 where
  pub enabled : (places : List Place) → places ≡ places_at ws ps → (es : List Entry) (next : ℕ) → marking_read places ms ≡ read es next → Begins places es begins → r ≡ (guard_at ws bs conjuncts && covers_all (counts_of es) (flows_at ws ps bs inputs))

-- what an enabled binding takes; none exactly where it is not enabled
pub record IsTaken (ws ps conjuncts inputs ms begins bs : List ℕ) (r : Gathered) (keys amounts : List ℕ) : Type 0 where
  pub enabled : IsEnabledAt ws ps conjuncts inputs ms begins bs r.some
  pub gathered : r.some ≡ true → IsGathered ws ps bs inputs r keys amounts
