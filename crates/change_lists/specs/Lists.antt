-- All counts that a step changes, listed in tables.
-- Rests on changes/specs/{Changes, Tables} and patch/specs/Patch.
use Rattle.std.specs.Prelude.{◌≡◌, true, false, Option, Some, None, List, ℕ, ◌≤◌}
use Rattle.semantics.specs.Lists.{every}
use Rattle.semantics.specs.Marking.{Entry}
use Rattle.patch.specs.Patch.{old_length, new_length}
use Rattle.change_lists.specs.declared.list.Listed.{Listed}
use Rattle.changes.specs.Changes.{after, within, uneven_from, changes_from, Sees}
use Rattle.changes.specs.Tables.{listed, Tabled}

-- the words of the old entries of uneven keys and of those that take their place
pub record IsMeasured (ws ps ik ia ok oa ms begins : List ℕ) (r : Listed) : Type 0 where
  pub within : (es : List Entry) → Sees ws ps ms begins es → every (within ws ps (after ws ps ik ia ok oa es)) (uneven_from ik ia ok oa 0) ≡ true
  pub old : (es : List Entry) → Sees ws ps ms begins es → r.old ≡ old_length (changes_from ws ps ik ia ok oa es 0)
  pub new : (es : List Entry) → Sees ws ps ms begins es → r.new ≡ new_length (changes_from ws ps ik ia ok oa es 0)
  pub old-short : r.old ≤ 80
  pub new-short : r.new ≤ 80

-- the changes of all uneven keys, where each count is at most 16,383
pub record AreListed (ws ps ik ia ok oa ms begins : List ℕ) (r : Listed) (keys ats olds counts : List ℕ) : Type 0 where
  pub measured : IsMeasured ws ps ik ia ok oa ms begins r
  pub tabled : Tabled ps keys counts r.n
  pub same : (es : List Entry) → Sees ws ps ms begins es → listed ws ps keys ats olds counts r.n ≡ changes_from ws ps ik ia ok oa es 0

abbrev pub IsListed : List ℕ → List ℕ → List ℕ → List ℕ → List ℕ → List ℕ → List ℕ → List ℕ → Option Listed → List ℕ → List ℕ → List ℕ → List ℕ → Type 0
IsListed ws ps ik ia ok oa ms begins (Some r) keys ats olds counts = AreListed ws ps ik ia ok oa ms begins r keys ats olds counts
IsListed ws ps ik ia ok oa ms begins None keys ats olds counts = (es : List Entry) → Sees ws ps ms begins es → every (within ws ps (after ws ps ik ia ok oa es)) (uneven_from ik ia ok oa 0) ≡ false
