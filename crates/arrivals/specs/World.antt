-- What a search is handed: an accepted net, one of its transitions and an accepted marking, with what the code knows of their positions.
-- Rests on semantics/specs/Calls, net/specs/Places and marking/specs/Marked.
use Rattle.std.specs.Prelude.{◌≡◌, List, [], map, ℕ, length}
use Rattle.std.proofs.Math.Option.{none}
use Rattle.semantics.specs.Reading.{read}
use Rattle.semantics.specs.Net.{Arc, Conjunct, Element}
use Rattle.semantics.specs.ReadNet.{read_transition}
use Rattle.semantics.specs.Plan.{accept_net, plan_fault}
use Rattle.semantics.specs.Marking.{Entry, counts_of}
use Rattle.semantics.specs.Calls.{Situation}
use Rattle.net.specs.Places.{places_at, PlacesFit}
use Rattle.marking.specs.Marked.{marking_read, Begins}

pub record World (ws ps : List ℕ) (position v : ℕ) (inputs conjuncts elements ms begins : List ℕ) (s : Situation) : Type 0 where
  pub whole : ℕ
  pub accepted : accept_net ws ≡ read s.net whole
  pub placed : s.net.places ≡ places_at ws ps
  pub fits : PlacesFit ws ps
  pub after : ℕ
  pub there : read_transition ws s.net.places position ≡ read s.transition after
  pub many : v ≡ length s.transition.variables
  pub arcs : inputs ≡ map (λ (a : Arc). a.position) s.transition.inputs
  pub guards : conjuncts ≡ map (λ (c : Conjunct). c.position) s.transition.guard
  pub plan : elements ≡ map (λ (e : Element). e.position) s.transition.plan
  pub faultless : plan_fault s.transition [] s.transition.plan ≡ none
  pub entries : List Entry
  pub end : ℕ
  pub marked : marking_read s.net.places ms ≡ read entries end
  pub counted : s.counts ≡ counts_of entries
  pub begun : Begins s.net.places entries begins
  pub beginnings : length begins ≡ 65
