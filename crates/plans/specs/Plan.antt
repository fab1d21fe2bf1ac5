-- What the answers of src/ say of plans.
-- Rests on Fitness and net/specs/Index.
use Rattle.std.specs.Prelude.{◌≡◌, ℕ, ◌+◌, ◌*◌, ◌≤◌, ◌<◌, List, length, get_or, take, drop, Result, Ok, Err}
use Rattle.std.proofs.Math.Option.{Option, none}
use Rattle.semantics.specs.declared.refusal.Refusal.{Refusal}
use Rattle.semantics.specs.Answer.{option_of}
use Rattle.expression.specs.Skip.{skipped}
use Rattle.net.specs.Skim.{starts, skim_transitions}
use Rattle.net.specs.declared.index.Parts.{Parts}
use Rattle.net.specs.Index.{up_to, Alike, AreParts}
use Rattle.plans.specs.declared.plan.Reviewed.{Reviewed}
use Rattle.plans.specs.Fitness.{transition_fault, fault_among}

-- the position after what was reviewed
abbrev pub end_of : Result Reviewed Refusal → Result ℕ Refusal
end_of (Ok r) = Ok r.end
end_of (Err e) = Err e

-- a transition that cannot be read has no plan at fault
abbrev pub fault_of : Result Reviewed Refusal → Option ℕ
fault_of (Ok r) = option_of r.fault
fault_of (Err e) = none

-- where the parts of the transition at a position begin, 32 numbers say
pub record OwnParts (ws widths : List ℕ) (at : ℕ) (own : List ℕ) : Type 0 where
  pub counted : Result (Parts × ℕ) Refusal
  pub are : AreParts ws widths at own counted

-- the transition at a position: its end, the fault of its plan, and its parts in a table from a number on; what is before that number stays
pub record IsReviewed (ws widths : List ℕ) (at : ℕ) (table : List ℕ) (base : ℕ) (r : Result Reviewed Refusal) (after : List ℕ) : Type 0 where
  pub ends : skipped (end_of r) ≡ skim_transitions ws widths at
  pub faults : fault_of r ≡ transition_fault ws widths at
  pub parts : OwnParts ws widths at (take 32 (drop base after))
  pub before : Alike base after table

-- where the parts of the i-th transition are kept: those from `first` on one after the other before `last`, all others at `last`
pub record IsBase (i first last r : ℕ) : Type 0 where
  pub inside : r ≤ last
  pub own : (k : ℕ) → first + k ≡ i → k * 32 + 32 ≤ last → r ≡ k * 32
  pub behind : (k : ℕ) → first + k < i → k * 32 + 32 ≤ last → k * 32 + 32 ≤ r

-- the parts of the transitions from `first` on, of i that begin at these positions, stand in a table one after the other, as far as its last 32 numbers
pub record AreKept (ws widths : List ℕ) (i : ℕ) (begins : List ℕ) (first : ℕ) (table : List ℕ) : Type 0 where
  pub each : (k : ℕ) → first + k < i → k * 32 + 64 ≤ length table → OwnParts ws widths (get_or begins (first + k) 0) (take 32 (drop (k * 32) table))

-- n transitions from a position on: their beginnings, and where all are read the first fault of their plans, and their parts in a table
pub record AreReviewed (ws widths : List ℕ) (n at : ℕ) (begins : List ℕ) (first : ℕ) (table : List ℕ) (r : Result Reviewed Refusal) : Type 0 where
  pub same : up_to (end_of r) (take n begins) ≡ starts n (skim_transitions ws widths) at
  pub faults : (t : Reviewed) → r ≡ Ok t → option_of t.fault ≡ fault_among ws widths (take n begins)
  pub kept : (t : Reviewed) → r ≡ Ok t → AreKept ws widths n begins first table
