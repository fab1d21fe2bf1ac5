-- What the calls on a transition and a marking start from, as the code has it.
-- Rests on semantics/specs/Calls, net/specs/Skim and marking/specs/Marked.
use Rattle.std.specs.Prelude.{◌≡◌, ℕ, ◌≤◌, List, take, Result, Ok, Err}
use Rattle.semantics.specs.declared.refusal.Refusal.{Refusal}
use Rattle.semantics.specs.Answer.{refusing}
use Rattle.std.proofs.Math.Option.{some}
use Rattle.std.proofs.Math.ListN.{get_elem?}
use Rattle.semantics.specs.Reading.{read}
use Rattle.semantics.specs.Net.{Transition, Net}
use Rattle.semantics.specs.ReadNet.{read_transition}
use Rattle.semantics.specs.Plan.{accept_net}
use Rattle.semantics.specs.Marking.{Entry, counts_of}
use Rattle.semantics.specs.Calls.{situation}
use Rattle.net.specs.declared.index.Parts.{Parts}
use Rattle.net.specs.Skim.{Outline, outline}
use Rattle.net.specs.Index.{outlined as outlined_parts}
use Rattle.net.specs.Places.{places_at, PlacesFit}
use Rattle.marking.specs.Marked.{marking_read, Begins}
use Rattle.situations.specs.declared.situation.Situation.{Situation}

-- a situation, with the tables that were lent to prepare
pub record Index : Type 0 where
  pub places : ℕ
  pub places_at : List ℕ
  pub position : ℕ
  pub transition : Parts
  pub own : List ℕ
  pub begins : List ℕ

abbrev pub index : Situation → List ℕ → List ℕ → List ℕ → Index
index r places own begins = record { places = r.places; places_at = places; position = r.position; transition = r.transition; own = own; begins = begins }

-- where the parts of its transition begin: at the front of its table
abbrev pub outlined : Index → Outline
outlined r = outlined_parts r.transition r.own

-- an accepted net, one of its transitions and an accepted marking, and what the code knows of each
pub record Prepared (ws : List ℕ) (t : ℕ) (ms : List ℕ) (r : Index) : Type 0 where
  pub net : Net
  pub whole : ℕ
  pub transition : Transition
  pub after : ℕ
  pub entries : List Entry
  pub end : ℕ
  pub accepted : accept_net ws ≡ read net whole
  pub named : get_elem? net.transitions t ≡ some transition
  pub few : r.places ≤ 64
  pub placed : net.places ≡ places_at ws (take r.places r.places_at)
  pub fits : PlacesFit ws (take r.places r.places_at)
  pub there : read_transition ws net.places r.position ≡ read transition after
  pub outlines : outlined r ≡ outline transition
  pub few-inputs : r.transition.inputs ≤ 8
  pub few-outputs : r.transition.outputs ≤ 8
  pub few-conjuncts : r.transition.conjuncts ≤ 8
  pub few_elements : r.transition.elements ≤ 8
  pub marked : marking_read net.places ms ≡ read entries end
  pub begins : Begins net.places entries r.begins
  pub same : situation ws t ms ≡ read (record { net = net; transition = transition; counts = counts_of entries }) 0

-- what prepare answers, with the tables
abbrev pub IsSituation : List ℕ → ℕ → List ℕ → Result Situation Refusal → List ℕ → List ℕ → List ℕ → Type 0
IsSituation ws t ms (Ok s) places own begins = Prepared ws t ms (index s places own begins)
IsSituation ws t ms (Err e) places own begins = situation ws t ms ≡ refusing e
