-- 01, "Enabling and stepping": what arcs say under a binding of lent words, told from the positions of arcs.
-- occurrence/proofs/Reading shows that they are what semantics says of a transition that was read.
-- Rests on semantics/specs/{ReadNet, Enabling}, evaluation/specs/Evaluate and net/specs/Places.
use Rattle.std.specs.Prelude.{ℕ, List, [], ◌∷◌, ℤ, pos, negsuc, length}
use Rattle.std.proofs.Math.Option.{Option, none, some, bind}
use Rattle.semantics.specs.Expression.{Expression, Environment, house_table, value, values_of}
use Rattle.semantics.specs.Reading.{Reading, read, refused, several}
use Rattle.semantics.specs.Net.{Arc}
use Rattle.semantics.specs.ReadNet.{read_expression, read_arc}
use Rattle.semantics.specs.Enabling.{Flow, flow}
use Rattle.evaluation.specs.Evaluate.{lent}
use Rattle.net.specs.Places.{places_at}

-- "colour (tuple of components)": the values of expressions that are read
abbrev pub colour_of : Environment → Reading (List Expression) → Option (List ℤ)
colour_of env (read es next) = values_of house_table env es
colour_of env (refused n p) = none

-- of n expressions from a position on
abbrev pub colour_at : List ℕ → List ℕ → ℕ → ℕ → Option (List ℤ)
colour_at ws bs n at = colour_of (lent bs) (several n (read_expression ws (length bs)) at)

-- "no input coefficient is negative": the tokens that a coefficient tells, and the position after it
abbrev pub tokens_by : ℕ → Option ℤ → Option (ℕ × ℕ)
tokens_by next none = none
tokens_by next (some (pos n)) = some (n, next)
tokens_by next (some (negsuc n)) = none

abbrev pub coefficient_of : Environment → Reading Expression → Option (ℕ × ℕ)
coefficient_of env (read e next) = tokens_by next (value house_table env e)
coefficient_of env (refused n p) = none

-- "every .. input-arc expression has a value, .. no input coefficient is negative": what an arc that is read moves
abbrev pub arc_flow : Environment → Reading Arc → Option Flow
arc_flow env (read a next) = flow house_table env a
arc_flow env (refused n p) = none

-- the arc at a position, in a net with its places at the positions ps
abbrev pub flow_at : List ℕ → List ℕ → List ℕ → ℕ → Option Flow
flow_at ws ps bs at = arc_flow (lent bs) (read_arc ws (places_at ws ps) (length bs) at)

-- the arcs at these positions
unfoldable pub flows_at : List ℕ → List ℕ → List ℕ → List ℕ → Option (List Flow)
flows_at ws ps bs [] = some []
flows_at ws ps bs (at ∷ ats) = bind (flow_at ws ps bs at) (λ f. bind (flows_at ws ps bs ats) (λ fs. some (f ∷ fs)))
