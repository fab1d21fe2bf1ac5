-- Demand 3 on runs: what steps reach, as occurrence sequences over counts and bindings, which mention no picks, indices or order; and how
-- a run ends that reaches it. Rests on Enabling, Tries, Run and Calls.
use Rattle.std.specs.Prelude.{◌≡◌, ℕ, zero, suc, ◌*◌, ◌-◌, ◌≤◌, true, List, ◌++◌, ℤ, length, replicate}
use Rattle.std.proofs.Math.Option.{some}
use Rattle.std.proofs.Math.ListN.{get_elem?}
use Rattle.semantics.specs.Refusal.{most_words, most_bindings}
use Rattle.semantics.specs.Reading.{read}
use Rattle.semantics.specs.Net.{Transition, Net}
use Rattle.semantics.specs.Order.{in_ranges}
use Rattle.semantics.specs.Marking.{Counts, marking_words}
use Rattle.semantics.specs.Enabling.{Step, effect}
use Rattle.semantics.specs.Tries.{all_tries}
use Rattle.semantics.specs.Run.{menu, Limits}
use Rattle.semantics.specs.Calls.{zeroed, Start, start, run_call}

-- One step: a binding in range of one of the net's transitions that is a step and leads from m to m'.
-- "the budget covers it if its W is at most the budget, and it fits if 11 doesn't apply. A new marking finds room if 16 doesn't apply."
pub record StepWithin (table : List ℕ) (net : Net) (l : Limits) (m m' : Counts) : Type 0 where
  pub number : ℕ
  pub transition : Transition
  pub named : get_elem? net.transitions number ≡ some transition
  pub binding : List ℤ
  pub inside : in_ranges transition.variables binding ≡ true
  pub step : Step table net transition m binding
  pub leads : m' ≡ effect m step.enabled.taken step.delivers.made
  pub covered : all_tries table net transition m ≤ l.budget
  pub few : length (menu table transition m) ≤ most_bindings
  pub fits : length (menu table transition m) * length transition.variables ≤ l.menu_room
  pub room : length (marking_words net m') ≤ l.room
  pub short : length (marking_words net m') ≤ most_words

-- k steps lead from m to m'
pub data OccurrenceSequence (table : List ℕ) (net : Net) (l : Limits) : ℕ → Counts → Counts → Type 0 where
  stay : {m : Counts} → OccurrenceSequence table net l zero m m
  occurs : {k : ℕ} {m m' m'' : Counts} → StepWithin table net l m m' → OccurrenceSequence table net l k m' m'' → OccurrenceSequence table net l (suc k) m m''

-- A list of picks is accepted, and its run ends with all of them done, no refusal and the marking `last`.
pub record Ends (net : List ℕ) (budget : ℕ) (buffer : List ℕ) (m : ℕ) (spare menu picks last : List ℕ) : Type 0 where
  pub handed : Start
  pub accepted : start net buffer m picks ≡ read handed 0
  pub end : run_call net budget buffer m spare menu picks ≡ record {
    answer = record { done = length picks; refusal = 0; position = 0; length = length last };
    buffer = last ++ replicate (length buffer - length last) 0;
    spare = zeroed spare;
    menu = zeroed menu;
  }
