-- What a run starts from, as the code has it.
-- Rests on semantics/specs/Calls, marking/specs/Marked and Known.
use Rattle.std.specs.Prelude.{◌≡◌, List, ℕ, min, ◌≤◌, length, take, Result, Ok, Err}
use Rattle.semantics.specs.declared.refusal.Refusal.{Refusal}
use Rattle.semantics.specs.Answer.{refusing}
use Rattle.std.proofs.Math.Option.{none}
use Rattle.semantics.specs.Reading.{read}
use Rattle.semantics.specs.Net.{Net}
use Rattle.semantics.specs.Marking.{Entry, first_unknown, first_malformed, counts_of}
use Rattle.semantics.specs.Calls.{start}
use Rattle.net.specs.declared.index.NetIndex.{NetIndex}
use Rattle.marking.specs.Marked.{marking_read}
use Rattle.starts.specs.Known.{NetKnown}

-- an accepted net with the parts of its transitions, an accepted marking in the first m words of a buffer, and picks of the net's transitions
pub record Started (ws buffer : List ℕ) (m : ℕ) (picks : List ℕ) (r : NetIndex) (table : List ℕ) : Type 0 where
  pub net : Net
  pub known : NetKnown ws (take (min r.places 64) r.places_at) (take (min r.transitions 64) r.transitions_at) table net
  pub inside : m ≤ length buffer
  pub entries : List Entry
  pub end : ℕ
  pub marked : marking_read net.places (take m buffer) ≡ read entries end
  pub named : first_unknown (length net.transitions) picks ≡ none
  pub formed : first_malformed picks ≡ none
  pub same : start ws buffer m picks ≡ read (record { net = net; counts = counts_of entries }) 0

-- what begin answers, with the table
abbrev pub IsStart : List ℕ → List ℕ → ℕ → List ℕ → Result NetIndex Refusal → List ℕ → Type 0
IsStart ws buffer m picks (Ok r) table = Started ws buffer m picks r table
IsStart ws buffer m picks (Err e) table = start ws buffer m picks ≡ refusing e
