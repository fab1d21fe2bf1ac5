-- Partial bindings told from words.
-- Rests on semantics/specs/Tries and evaluation/specs/Evaluate.
use Rattle.std.specs.Prelude.{◌≡◌, Bool, false, List, map, ℕ, ◌≤◌, ℤ, length, take}
use Rattle.std.proofs.Math.Option.{Option, bind}
use Rattle.std.proofs.Math.ListN.{get_elem?}
use Rattle.semantics.specs.Word.{Range}
use Rattle.semantics.specs.Expression.{given}
use Rattle.semantics.specs.Tries.{Partial, bind_new}
use Rattle.evaluation.specs.Evaluate.{value_of}

-- the values of the first v slots, where they hold VALUE words
abbrev pub partial_of : ℕ → List ℕ → Partial
partial_of v b = map value_of (take v b)

-- a try from slots b that answers whether it goes on and leaves slots b': where it goes on they hold the partial binding that it goes on with, else
-- they are as they were
pub record IsTried (v : ℕ) (o : Option Partial) (b : List ℕ) (on : Bool) (b' : List ℕ) : Type 0 where
  pub same : given on (partial_of v b') ≡ o
  pub left : on ≡ false → b' ≡ b

-- words that were kept of slots, to be put back
pub record IsSaved (b saved : List ℕ) : Type 0 where
  pub few : length b ≤ 8
  pub full : length saved ≡ 8
  pub front : take (length b) saved ≡ b

-- a variable is bound to a value that may be missing
abbrev pub bound_by : List Range → Partial → ℕ → Option ℤ → Option Partial
bound_by ranges p n o = bind o (λ z. bind_new p n (get_elem? ranges n) z)
