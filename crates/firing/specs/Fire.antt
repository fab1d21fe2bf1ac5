-- What firing starts from, and what its answers say.
-- Rests on semantics/specs/Calls, marking/specs/Marked, net/specs/Places, gathering/specs/Gather, occurrence/specs/Answers and changes/specs/Changes.
use Rattle.std.specs.Prelude.{◌≡◌, ℕ, ◌<◌, true, List, ℤ, length, Result}
use Rattle.semantics.specs.declared.refusal.Refusal.{Refusal}
use Rattle.semantics.specs.Expression.{house_table, bound}
use Rattle.semantics.specs.Reading.{read}
use Rattle.semantics.specs.Net.{Arc, Transition, Net}
use Rattle.semantics.specs.ReadNet.{read_transition}
use Rattle.semantics.specs.Lists.{Every}
use Rattle.semantics.specs.Marking.{Entry, counts_of}
use Rattle.semantics.specs.Run.{fire}
use Rattle.evaluation.specs.Evaluate.{lent}
use Rattle.net.specs.Skim.{outline}
use Rattle.net.specs.Places.{places_at}
use Rattle.marking.specs.Marked.{marking_read, Begins}
use Rattle.gathering.specs.Gather.{IsGathered}
use Rattle.occurrence.specs.Answers.{IsEnabledAt}
use Rattle.steps.specs.Steps.{FiredTo}

-- a transition of a net, whose conjuncts and arcs stand at these positions, a marking and a binding, with what the code has of them
pub record FireableAt (ws ps gs is os ms begins bs : List ℕ) : Type 0 where
  pub net : Net
  pub at : ℕ
  pub transition : Transition
  pub after : ℕ
  pub entries : List Entry
  pub end : ℕ
  pub binding : List ℤ
  pub placed : net.places ≡ places_at ws ps
  pub there : read_transition ws net.places at ≡ read transition after
  pub guard_at_lem : gs ≡ (outline transition).guard
  pub inputs_at : is ≡ (outline transition).inputs
  pub outputs_at : os ≡ (outline transition).outputs
  pub outputs : Every (λ (a : Arc). a.place < length net.places) transition.outputs
  pub marked : marking_read net.places ms ≡ read entries end
  pub begun : Begins net.places entries begins
  pub many : length bs ≡ length transition.variables
  pub values : lent bs ≡ bound binding

-- the answer, the buffer after it, and where the places of its marking begin
pub record IsFiredAt (ws ps gs is os ms begins bs buffer : List ℕ) (r : Result ℕ Refusal) (after begins' : List ℕ) : Type 0 where
  pub fired : (q : FireableAt ws ps gs is os ms begins bs) → FiredTo q.net buffer begins r after begins' (fire house_table q.net (length buffer) q.transition (counts_of q.entries) q.binding)

-- ── A binding that is known to be enabled ──

-- the conjuncts are not looked at again, so they may stand anywhere
pub record EnabledAt (ws ps is os ms begins bs : List ℕ) : Type 0 where
  pub conjuncts : List ℕ
  pub fireable : FireableAt ws ps conjuncts is os ms begins bs
  pub enabled : IsEnabledAt ws ps conjuncts is ms begins bs true

-- what fire answers, for all conjuncts that the binding is enabled by
pub record IsFiredEnabled (ws ps is os ms begins bs buffer : List ℕ) (r : Result ℕ Refusal) (after begins' : List ℕ) : Type 0 where
  pub fired : (gs : List ℕ) → IsEnabledAt ws ps gs is ms begins bs true → IsFiredAt ws ps gs is os ms begins bs buffer r after begins'

-- what it takes are the first n keys and amounts, and the input arcs are not looked at again
pub record TakenAt (ws ps os ms begins bs keys amounts : List ℕ) (n : ℕ) : Type 0 where
  pub inputs : List ℕ
  pub enabled : EnabledAt ws ps inputs os ms begins bs
  pub arcs : ℕ
  pub gathered : IsGathered ws ps bs inputs (record { some = true; arcs = arcs; n = n }) keys amounts

-- the same for all input arcs that take them
pub record IsFiredTaken (ws ps os ms begins bs keys amounts : List ℕ) (n : ℕ) (buffer : List ℕ) (r : Result ℕ Refusal) (after begins' : List ℕ) : Type 0 where
  pub fired : (is : List ℕ) (arcs : ℕ) → IsGathered ws ps bs is (record { some = true; arcs = arcs; n = n }) keys amounts → IsFiredEnabled ws ps is os ms begins bs buffer r after begins'
