-- What a run of picks comes to, as the code has it.
-- Rests on semantics/specs/{Run, Calls} and starts/specs/Known.
use Rattle.std.specs.Prelude.{◌≡◌, List, ℕ, ◌≤◌, ◌<◌, length, take}
use Rattle.semantics.specs.declared.Outcome.{Outcome}
use Rattle.semantics.specs.Answer.{stop_of, outcome_of}
use Rattle.semantics.specs.Reading.{read}
use Rattle.semantics.specs.Expression.{house_table}
use Rattle.semantics.specs.Lists.{Every}
use Rattle.semantics.specs.Net.{Net}
use Rattle.semantics.specs.Plan.{accept_net}
use Rattle.semantics.specs.Marking.{Entry, pick_transition, marking_words}
use Rattle.semantics.specs.Run.{End, plain_run}
use Rattle.semantics.specs.Calls.{limits, RunEnd}
use Rattle.marking.specs.Marked.{marking_read}
use Rattle.search.specs.Scene.{net_of, counts_in}
use Rattle.run.specs.declared.run.Ended.{Ended}
use Rattle.starts.specs.Known.{NetKnown}

-- a net with the parts of its transitions, an accepted marking at the front of a buffer, and picks of the net's transitions
pub record Runnable (ws ps transitions parts buffer : List ℕ) (m : ℕ) (picks : List ℕ) : Type 0 where
  pub known : NetKnown ws ps transitions parts (net_of (accept_net ws))
  pub inside : m ≤ length buffer
  pub entries : List Entry
  pub end : ℕ
  pub marked : marking_read (net_of (accept_net ws)).places (take m buffer) ≡ read entries end
  pub there : Every (λ w. pick_transition w < length (net_of (accept_net ws)).transitions) picks

-- where the plain run ends, and the marking there at the front of the buffer
pub record HasRun (net : Net) (e : End) (r : Ended) (after : List ℕ) : Type 0 where
  pub done : r.done ≡ e.done
  pub stopped : stop_of r.stopped ≡ record { number = e.refusal; position = 0 }
  pub size : r.length ≡ length (marking_words net e.counts)
  pub inside : r.length ≤ length after
  pub words : take r.length after ≡ marking_words net e.counts

abbrev pub HasRunFrom : List ℕ → ℕ → List ℕ → ℕ → List ℕ → List ℕ → List ℕ → Ended → List ℕ → Type 0
HasRunFrom ws budget buffer m spare menu picks r after =
    HasRun (net_of (accept_net ws)) (plain_run house_table (net_of (accept_net ws)) (limits budget buffer spare menu) (counts_in (marking_read (net_of (accept_net ws)).places (take m buffer))) 0 picks) r after

-- answer and buffers, as the definition of the call has them
abbrev pub run_end : Outcome → List ℕ → List ℕ → List ℕ → RunEnd
run_end r buffer spare menu = record { answer = outcome_of r; buffer = buffer; spare = spare; menu = menu }
