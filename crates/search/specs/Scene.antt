-- Net, transition and counts as functions of the words and positions that a search is handed.
-- Rests on semantics/specs/Calls, net/specs/Places and marking/specs/Marked.
use Rattle.std.specs.Prelude.{List, [], ℕ}
use Rattle.semantics.specs.Reading.{Reading, read, refused}
use Rattle.semantics.specs.Net.{Transition, Net}
use Rattle.semantics.specs.ReadNet.{read_transition}
use Rattle.semantics.specs.Plan.{accept_net}
use Rattle.semantics.specs.Marking.{Entry, Counts, counts_of}
use Rattle.semantics.specs.Calls.{Situation}
use Rattle.marking.specs.Marked.{marking_read}

-- what was read; where it was refused, nothing is there
abbrev pub net_of : Reading Net → Net
net_of (read net next) = net
net_of (refused n p) = record { places = []; transitions = [] }

abbrev pub transition_of : Reading Transition → Transition
transition_of (read t next) = t
transition_of (refused n p) = record { position = 0; variables = []; inputs = []; outputs = []; guard = []; plan = [] }

abbrev pub counts_in : Reading (List Entry) → Counts
counts_in (read es next) = counts_of es
counts_in (refused n q) = λ p c. 0

-- the net that the words ws are, its transition at a position, and the counts of the marking ms
unfoldable pub scene_of : List ℕ → ℕ → List ℕ → Situation
scene_of ws position ms =
    record {
      net = net_of (accept_net ws);
      transition = transition_of (read_transition ws (net_of (accept_net ws)).places position);
      counts = counts_in (marking_read (net_of (accept_net ws)).places ms);
    }
