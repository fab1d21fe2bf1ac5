-- What the answers of the readers in src/ say: as readings of specs/Skim.
-- Rests on Skim.
use Rattle.std.specs.Prelude.{◌≡◌, ℕ, ◌/◌, ◌%◌, ◌≤◌, take, drop, Result, Ok, Err}
use mathlib.Core.List.{List, zip}
use Rattle.semantics.specs.declared.refusal.Refusal.{Refusal}
use Rattle.semantics.specs.Reading.{Reading, read, then, Reader}
use Rattle.semantics.specs.Answer.{refusing}
use Rattle.net.specs.declared.index.Parts.{Parts}
use Rattle.net.specs.declared.index.PlaceIndex.{PlaceIndex}
use Rattle.net.specs.declared.index.NetIndex.{NetIndex}
use Rattle.expression.specs.Skip.{skipped}
use Rattle.net.specs.Skim.{starts, Outline, skim_transition, NetOutline}

-- ── Structures ──

-- what was read up to an end, or its refusal
abbrev pub up_to : {A : Type 0} → Result ℕ Refusal → A → Reading A
up_to (Ok next) a = read a next
up_to (Err e) a = refusing e

-- the first n numbers of two tables are alike
pub record Alike (n : ℕ) (l m : List ℕ) : Type 0 where
  pub same : take n l ≡ take n m

-- n structures of one kind, after others that end or are refused: where they begin stands in a table from a number on; what is before that number stays
pub record AreStarted (n : ℕ) (one : Reader (Unit {0})) (from : Result ℕ Refusal) (table : List ℕ) (base : ℕ) (r : Result ℕ Refusal) (after : List ℕ) : Type 0 where
  pub same : up_to r (take n (drop base after)) ≡ then (skipped from) (λ u at. starts n one at)
  pub before : Alike base after table

-- where the parts of a transition begin, as 32 numbers have them: eight for each kind of part
abbrev pub outlined : Parts → List ℕ → Outline
outlined r own =
    record {
      variables = r.variables;
      inputs = take r.inputs own;
      outputs = take r.outputs (drop 8 own);
      guard = take r.conjuncts (drop 16 own);
      plan = take r.elements (drop 24 own);
    }

-- how many parts a TRANSITION word tells
abbrev pub parts_of : ℕ → Parts
parts_of head = record { variables = head % 16; inputs = head / 16 % 16; outputs = head / 256 % 16; conjuncts = head / 4096 % 16; elements = head / 65536 % 16 }

-- a transition whose parts begin where 32 numbers say, or its refusal
abbrev pub parts_read : Result (Parts × ℕ) Refusal → List ℕ → Reading Outline
parts_read (Ok r) own = read (outlined r.0 own) r.1
parts_read (Err e) own = refusing e

-- at most eight of each
pub record AreFew (r : Parts) : Type 0 where
  pub variables : r.variables ≤ 8
  pub inputs : r.inputs ≤ 8
  pub outputs : r.outputs ≤ 8
  pub conjuncts : r.conjuncts ≤ 8
  pub elements : r.elements ≤ 8

abbrev pub FewRead : Result (Parts × ℕ) Refusal → Type 0
FewRead (Ok r) = AreFew r.0
FewRead (Err e) = Unit {0}

-- the transition at a position; its parts begin where 32 numbers say
pub record AreParts (ws widths : List ℕ) (at : ℕ) (own : List ℕ) (r : Result (Parts × ℕ) Refusal) : Type 0 where
  pub same : parts_read r own ≡ skim_transition ws widths at
  pub few : FewRead r

-- they stand in a table from a number on; what is before that number stays
pub record PartsRead (ws widths : List ℕ) (at : ℕ) (table : List ℕ) (base : ℕ) (r : Result (Parts × ℕ) Refusal) (after : List ℕ) : Type 0 where
  pub parts : AreParts ws widths at (take 32 (drop base after)) r
  pub before : Alike base after table

abbrev pub place_read : Result PlaceIndex Refusal → Reading ℕ
place_read (Ok r) = read r.width r.end
place_read (Err e) = refusing e

-- the positions that the index of a net has
abbrev pub outlined_net : NetIndex → NetOutline
outlined_net r = record { places = zip (take r.places r.places_at) (take r.places r.widths); transitions = take r.transitions r.transitions_at }

abbrev pub net_read : Result NetIndex Refusal → Reading NetOutline
net_read (Ok r) = read (outlined_net r) r.end
net_read (Err e) = refusing e
