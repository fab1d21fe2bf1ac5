-- 01, "Enabling and stepping": "each count after (count - inputs + outputs) at most 16,383". The counts that a step changes are those of the
-- keys of which something else is made than is taken; they are told rising, each once, and where their old entries are.
-- Rests on Keys, arcs/specs/Keys, gathering/specs/Gather, patch/specs/Patch and semantics/specs/Enabling.
use Rattle.std.specs.Prelude.{◌≡◌, Bool, true, false, cond, not, Option, Some, None, List, ◌++◌, map, ℕ, ◌+◌, ◌-◌, ◌≤◌, ◌<◌, leb, eqb, length}
use Rattle.semantics.specs.Refusal.{most_count}
use Rattle.semantics.specs.Lists.{Every, select}
use Rattle.semantics.specs.Reading.{read}
use Rattle.semantics.specs.Marking.{Entry, key, Counts, counts_of, entry_words}
use Rattle.semantics.specs.Enabling.{effect}
use Rattle.net.specs.Places.{places_at, PlacesFit}
use Rattle.marking.specs.Marked.{marking_read, Begins, position_of}
use Rattle.arcs.specs.Keys.{key_place, key_colour, key_flows, KeyFits}
use Rattle.gathering.specs.Gather.{sum_of}
use Rattle.patch.specs.Patch.{Change}
use Rattle.changes.specs.declared.change.Changed.{Changed}
use Rattle.changes.specs.Keys.{keys_from}

-- ── One count ──

-- a count, if it is at most 16,383
abbrev pub within_limit : ℕ → Option ℕ
within_limit n = cond (leb n most_count) (Some n) None

-- the words of an entry of n components
abbrev pub entry_size : ℕ → ℕ → ℕ
entry_size count n = cond (eqb count 0) 0 (1 + n)

-- ── What is taken and made ──

-- keys with their amounts, at most eight
pub record Keyed (ws ps keys amounts : List ℕ) : Type 0 where
  pub few : length keys ≤ 8
  pub same : length amounts ≡ length keys
  pub fit : Every (KeyFits ws ps) keys

-- keys ik are taken and keys ok are made, in a net with its places at ps
pub record Moves (ws ps ik ia ok oa begins : List ℕ) : Type 0 where
  pub fits : PlacesFit ws ps
  pub begins-full : length begins ≡ 65
  pub ins : Keyed ws ps ik ia
  pub outs : Keyed ws ps ok oa

-- the counts after
abbrev pub after : List ℕ → List ℕ → List ℕ → List ℕ → List ℕ → List ℕ → List Entry → Counts
after ws ps ik ia ok oa es = effect (counts_of es) (key_flows ws ps ik ia) (key_flows ws ps ok oa)

-- that of a key is at most 16,383
abbrev pub within : List ℕ → List ℕ → Counts → ℕ → Bool
within ws ps m k = leb (m (key_place k) (key_colour ws ps k)) most_count

-- a key of which something else is made than is taken: the count of another stays
abbrev pub is_uneven : List ℕ → List ℕ → List ℕ → List ℕ → ℕ → Bool
is_uneven ik ia ok oa k = not (eqb (sum_of ik ia k) (sum_of ok oa k))

-- those from a number on
abbrev pub uneven_from : List ℕ → List ℕ → List ℕ → List ℕ → ℕ → List ℕ
uneven_from ik ia ok oa floor = select (is_uneven ik ia ok oa) (keys_from floor (ik ++ ok))

-- the change of a key from its count among a marking's entries to another
abbrev pub change_to : List ℕ → List ℕ → List Entry → ℕ → ℕ → Change
change_to ws ps es k n = record { place = key_place k; colour = key_colour ws ps k; count = n; at = position_of es (key (key_place k) (key_colour ws ps k)); old = entry_size (counts_of es (key_place k) (key_colour ws ps k)) (length (key_colour ws ps k)) }

-- to that of other counts
abbrev pub change_at : List ℕ → List ℕ → List Entry → Counts → ℕ → Change
change_at ws ps es m k = change_to ws ps es k (m (key_place k) (key_colour ws ps k))

-- the changes of the uneven keys from a number on
abbrev pub changes_from : List ℕ → List ℕ → List ℕ → List ℕ → List ℕ → List ℕ → List Entry → ℕ → List Change
changes_from ws ps ik ia ok oa es floor = map (change_at ws ps es (after ws ps ik ia ok oa es)) (uneven_from ik ia ok oa floor)

-- ── By the entries of a marking that was read ──

pub record Sees (ws ps ms begins : List ℕ) (es : List Entry) : Type 0 where
  pub next : ℕ
  pub marked : marking_read (places_at ws ps) ms ≡ read es next
  pub begun : Begins (places_at ws ps) es begins

-- the count of a key of which so much is taken and made
abbrev pub changed_count : List ℕ → List ℕ → List Entry → ℕ → ℕ → ℕ → ℕ
changed_count ws ps es k taken made = counts_of es (key_place k) (key_colour ws ps k) - taken + made

-- its change, where that count is at most 16,383
pub record IsChanged (ws ps ms begins : List ℕ) (k taken made : ℕ) (r : Changed) : Type 0 where
  pub within : (es : List Entry) → Sees ws ps ms begins es → leb (changed_count ws ps es k taken made) most_count ≡ true
  pub told : (es : List Entry) → Sees ws ps ms begins es → record { place = key_place k; colour = key_colour ws ps k; count = r.count; at = r.at; old = r.old } ≡ change_to ws ps es k (changed_count ws ps es k taken made)
  pub new : r.new ≡ length (entry_words (key_place k) (key_colour ws ps k) r.count)
  pub small : r.count < 16384
  pub old-short : r.old ≤ 5
  pub new-short : r.new ≤ 5

abbrev pub IsChange : List ℕ → List ℕ → List ℕ → List ℕ → ℕ → ℕ → ℕ → Option Changed → Type 0
IsChange ws ps ms begins k taken made (Some r) = IsChanged ws ps ms begins k taken made r
IsChange ws ps ms begins k taken made None = (es : List Entry) → Sees ws ps ms begins es → leb (changed_count ws ps es k taken made) most_count ≡ false
