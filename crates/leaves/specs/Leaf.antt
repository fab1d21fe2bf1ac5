-- What a search has come to: the tries held against the budget, and the enabled bindings among the rows of the menu; and what a leaf adds to it.
-- Rests on occurrence/specs/Answers and rows/specs/Rows.
use Rattle.std.specs.Prelude.{◌≡◌, Bool, false, cond, List, [], ℕ, ◌+◌, ◌*◌, ◌≤◌, leb, ℤ, length, drop}
use Rattle.semantics.specs.Lists.{cons_if}
use Rattle.occurrence.specs.Answers.{IsEnabledAt}
use Rattle.rows.specs.declared.insert.Inserted.{Inserted}
use Rattle.rows.specs.Rows.{values_of_words, Kept, Listing, add_all, listing_of}
use Rattle.leaves.specs.declared.progress.Progress.{Progress}

-- ── Budget and room ──

-- a search is past its budget, or it made so many tries and lists these rows
pub data Outcome : Type 0 where
  exhausted : Outcome
  reached : ℕ → Listing → Outcome

-- so many tries held against the budget
abbrev pub settle : ℕ → ℕ → Listing → Outcome
settle budget t l = cond (leb t budget) (reached t l) exhausted

-- the outcome that the code's numbers and the menu stand for
abbrev pub outcome_of : ℕ → Progress → List ℕ → Outcome
outcome_of w s m = cond s.spent exhausted (reached s.tries (listing_of w s.rows s.full m))

-- ── What the code's answers say ──

-- the rows are at the front of the menu, with room for `most`
pub record Held (w most n : ℕ) (m : List ℕ) : Type 0 where
  pub kept : Kept w n m
  pub within : n ≤ most
  pub room : most * w ≤ length m

-- the budget is not spent
pub record Unspent (budget : ℕ) (s : Progress) : Type 0 where
  pub paid : s.tries ≤ budget
  pub on : s.spent ≡ false

-- what so many tries more and these rows more leave, from n rows in the menu m on
pub record Ended (w most budget n : ℕ) (m : List ℕ) (t : ℕ) (l : Listing) (cost : ℕ) (rows : List (List ℤ)) (s' : Progress) (m' : List ℕ) : Type 0 where
  pub kept : Kept w s'.rows m'
  pub within : s'.rows ≤ most
  pub grown : n ≤ s'.rows
  pub beyond : drop (s'.rows * w) m' ≡ drop (s'.rows * w) m
  pub outcome : outcome_of w s' m' ≡ settle budget (t + cost) (add_all most rows l)

-- so many tries, with these rows
abbrev pub progress : ℕ → Bool → Inserted → Progress
progress tries spent r = record { tries = tries; rows = r.rows; spent = spent; full = r.full }

-- a full binding b is put among the rows where it is enabled, which u tells
pub record IsLeaf (ws ps conjuncts inputs ms begins : List ℕ) (most : ℕ) (b : List ℕ) (s : Inserted) (m : List ℕ) (r : Inserted) (m' : List ℕ) : Type 0 where
  pub ended : (budget t : ℕ) (spent : Bool) → Unspent budget (progress t spent s) → (u : Bool) → ((q : Bool) → IsEnabledAt ws ps conjuncts inputs ms begins b q → q ≡ u) → Ended (length b) most budget s.rows m t (listing_of (length b) s.rows s.full m) 0 (cons_if u (values_of_words b) []) (progress t spent r) m'
