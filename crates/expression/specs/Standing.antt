-- An expression stands at a position: a fact of an accepted net, which those who evaluate rest on.
-- Rests on semantics/specs/ReadNet.
use Rattle.std.specs.Prelude.{◌≡◌, List, ℕ}
use Rattle.semantics.specs.Expression.{Expression}
use Rattle.semantics.specs.Reading.{read, several}
use Rattle.semantics.specs.ReadNet.{read_expression}

-- its variables are below v
pub record HasExpression (ws : List ℕ) (v at : ℕ) : Type 0 where
  pub tree : Expression
  pub next : ℕ
  pub reads : read_expression ws v at ≡ read tree next

-- n of them, one after the other
pub record HasSeveral (ws : List ℕ) (v n at : ℕ) : Type 0 where
  pub trees : List Expression
  pub next : ℕ
  pub reads : several n (read_expression ws v) at ≡ read trees next
