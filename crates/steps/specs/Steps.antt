-- A step: 15, 16, or the marking with all counts that it changes, and where its places begin.
-- Rests on changes/specs/{Keys, Changes}, marking/specs/Marked and semantics/specs/{Enabling, Run, Calls}.
use Rattle.std.specs.Prelude.{◌≡◌, true, cond, List, ◌++◌, ℕ, ◌≤◌, ℤ, length, Result}
use Rattle.semantics.specs.declared.refusal.Refusal.{Refusal}
use Rattle.semantics.specs.Answer.{fired_of}
use Rattle.semantics.specs.Refusal.{over_count}
use Rattle.semantics.specs.Lists.{every}
use Rattle.semantics.specs.Net.{Net}
use Rattle.semantics.specs.Marking.{Entry, Proper, counts_of}
use Rattle.semantics.specs.Enabling.{total, Firing, moved, stopped}
use Rattle.semantics.specs.Run.{roomed}
use Rattle.semantics.specs.Calls.{FireEnd, fired_by}
use Rattle.net.specs.Places.{places_at}
use Rattle.marking.specs.Marked.{BeginsFor}
use Rattle.arcs.specs.Keys.{key_flows}
use Rattle.changes.specs.Keys.{keys_from}
use Rattle.changes.specs.Changes.{Moves, after, within, Sees}

-- answer and buffer, as the definition of the call has them
abbrev pub fire_end : Result ℕ Refusal → List ℕ → FireEnd
fire_end r buffer = record { answer = fired_of r; buffer = buffer }

-- where places begin after a firing: in the new marking, or as they did
abbrev pub BeginsThen : Net → List ℕ → List ℕ → Firing → Type 0
BeginsThen net begins begins' (moved m) = BeginsFor net m begins'
BeginsThen net begins begins' (stopped n) = begins' ≡ begins

-- answer, buffer and beginnings after a firing
pub record FiredTo (net : Net) (buffer begins : List ℕ) (r : Result ℕ Refusal) (rest begins' : List ℕ) (x : Firing) : Type 0 where
  pub end : fire_end r rest ≡ fired_by net buffer x
  pub begun : BeginsThen net begins begins' x

-- ── A step ──

-- a marking of a net that covers what is taken; where no count passes the limit, the counts after are proper
pub record Stepping (ws ps ik ia ok oa ms begins : List ℕ) : Type 0 where
  pub moves : Moves ws ps ik ia ok oa begins
  pub net : Net
  pub entries : List Entry
  pub placed : net.places ≡ places_at ws ps
  pub sees : Sees ws ps ms begins entries
  pub covered : (p : ℕ) (c : List ℤ) → total (key_flows ws ps ik ia) p c ≤ counts_of entries p c
  pub proper : every (within ws ps (after ws ps ik ia ok oa entries)) (keys_from 0 (ik ++ ok)) ≡ true → Proper net (after ws ps ik ia ok oa entries)

-- 15 or 16, or the new marking, and where its places begin
pub record IsStep (ws ps ik ia ok oa ms begins : List ℕ) (buffer : List ℕ) (r : Result ℕ Refusal) (rest begins' : List ℕ) : Type 0 where
  pub fired : (q : Stepping ws ps ik ia ok oa ms begins) → FiredTo q.net buffer begins r rest begins' (roomed q.net (length buffer) (cond (every (within ws ps (after ws ps ik ia ok oa q.entries)) (keys_from 0 (ik ++ ok))) (moved (after ws ps ik ia ok oa q.entries)) (stopped over_count)))
