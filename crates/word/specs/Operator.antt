-- The operators by their codes.
-- Rests on semantics/specs/Expression.
use Rattle.std.specs.Prelude.{ℕ, cond, eqb}
use Rattle.semantics.specs.Expression.{Operator, add, subtract, multiply, remainder}

-- "OPERATOR: 0 add, 1 subtract, 2 multiply, 3 remainder"
abbrev pub operator_of : ℕ → Operator
operator_of k = cond (eqb k 0) add (cond (eqb k 1) subtract (cond (eqb k 2) multiply remainder))
