-- What a solve tries, told from the words of its conjunct. In an accepted plan one side fits, so a look at the left side decides which.
-- Rests on semantics/specs/{Plan, Tries}, evaluation/specs/Evaluate and Partial.
use Rattle.std.specs.Prelude.{◌≡◌, Bool, true, false, cond, List, ℕ, ◌<◌, eqb, ℤ, get_or, take, Some, None}
use Rattle.std.specs.Prelude as prelude
use Rattle.std.proofs.Math.Option.{Option, none, some, bind}
use Rattle.std.proofs.Math.ListN.{get_elem?}
use Rattle.semantics.specs.Word.{kind, payload, Range}
use Rattle.semantics.specs.Expression.{Expression, constant, variable, binary, load, house_table, value}
use Rattle.semantics.specs.Reading.{Reading, read, refused}
use Rattle.semantics.specs.Net.{Conjunct}
use Rattle.semantics.specs.ReadNet.{read_expression, read_conjunct}
use Rattle.semantics.specs.Plan.{Solution, either_side}
use Rattle.semantics.specs.Tries.{Partial, partly, is_bound_in, bind_new}
use Rattle.evaluation.specs.Evaluate.{lent, Valuation, valued, unread, evaluated_from}
use Rattle.tries.specs.Partial.{partial_of, bound_by}

-- a value that was told, if there is one
abbrev pub value_told : Valuation → Option ℤ
value_told (valued o next) = o
value_told unread = none

-- the value of the expression at a position under the first v slots
abbrev pub value_for : List ℕ → ℕ → List ℕ → ℕ → Option ℤ
value_for ws v b at = value_told (evaluated_from (lent (take v b)) (read_expression ws v at))

-- what a look at the word of a position tells
abbrev pub IsLone : List ℕ → ℕ → List ℕ → ℕ → prelude.Option ℕ → Type 0
IsLone ws v b at (Some n) = (kind (get_or ws at 0) ≡ 8) × (n ≡ payload (get_or ws at 0)) × (n < v) × (is_bound_in (partial_of v b) n ≡ false)
IsLone ws v b at None = kind (get_or ws at 0) ≡ 8 → payload (get_or ws at 0) < v → is_bound_in (partial_of v b) (payload (get_or ws at 0)) ≡ true

-- the variable alone at a position takes a value
abbrev pub bound_at : List ℕ → List Range → Partial → ℕ → ℤ → Option Partial
bound_at ws ranges p at z = cond (eqb (kind (get_or ws at 0)) 8) (bind_new p (payload (get_or ws at 0)) (get_elem? ranges (payload (get_or ws at 0))) z) none

-- an unbound variable alone
abbrev pub unbound_alone : (ℕ → Bool) → Expression → Option ℕ
unbound_alone is_bound (variable n) = cond (is_bound n) none (some n)
unbound_alone is_bound (constant z) = none
unbound_alone is_bound (binary o a b) = none
unbound_alone is_bound (load a) = none

-- a variable alone
abbrev pub alone : Expression → Option ℕ
alone (variable n) = some n
alone (constant z) = none
alone (binary o a b) = none
alone (load a) = none

-- "(left looked at first)": the left side where it is an unbound variable alone, else the right side where it is a variable alone
abbrev pub side_of : (ℕ → Bool) → Conjunct → Option Solution
side_of is_bound c = either_side (unbound_alone is_bound c.left) (alone c.right) c.left c.right

abbrev pub solved_by : List Range → Partial → Conjunct → Option Partial
solved_by ranges p c = bind (side_of (is_bound_in p) c) (λ s. bound_by ranges p s.unknown (value house_table (partly p) s.known))

abbrev pub solved_from : List Range → Partial → Reading Conjunct → Option Partial
solved_from ranges p (read c next) = solved_by ranges p c
solved_from ranges p (refused n q) = none

-- the conjunct at a position
abbrev pub solved_at : List ℕ → List Range → ℕ → Partial → ℕ → Option Partial
solved_at ws ranges v p at = solved_from ranges p (read_conjunct ws v at)
