-- An expression evaluated where it stands: the value of its tree under a binding of lent words. That it stands there is a fact of an accepted net.
-- Rests on semantics/specs/{ReadNet, Answer}.
use Rattle.std.specs.Prelude.{◌≡◌, ◌&&◌, List, ℕ, ◌<◌, eqb, ℤ, get_or, length}
use Rattle.std.proofs.Math.Option.{Option, bind}
use Rattle.std.proofs.Math.ListN.{get_elem?}
use Rattle.semantics.specs.Word.{kind, payload, only, signed}
use Rattle.semantics.specs.Expression.{Expression, Environment, given, house_table, value}
use Rattle.semantics.specs.Answer.{option_of}
use Rattle.semantics.specs.Reading.{Reading, read, refused}
use Rattle.semantics.specs.ReadNet.{binary_head, load_head, operands, expression_in}
use Rattle.word.specs.Operator.{operator_of}
use Rattle.evaluation.specs.declared.evaluate.Evaluated.{Evaluated}

-- "VALUE: 0-13 value": the value of a VALUE word
abbrev pub value_of : ℕ → Option ℤ
value_of w = given (eqb (kind w) 0xC && only 14 (payload w)) (signed (payload w))

-- the environment of lent words: variable n is the word n, where that is a VALUE word
abbrev pub lent : List ℕ → Environment
lent bs n = bind (get_elem? bs n) value_of

-- a value, which may be missing, and the position after its expression; or no expression
pub data Valuation : Type 0 where
  valued : Option ℤ → ℕ → Valuation
  unread : Valuation

abbrev pub evaluated : Evaluated → Valuation
evaluated r = valued (option_of r.value) r.next

-- the value of what is read
abbrev pub evaluated_from : Environment → Reading Expression → Valuation
evaluated_from env (read e next) = valued (value house_table env e) next
evaluated_from env (refused n p) = unread

-- ── An expression and its operands ──

-- an expression stands at a position: some number of rounds reads it, before some position
pub record Stands (ws : List ℕ) (v at : ℕ) : Type 0 where
  pub rounds : ℕ
  pub stop : ℕ
  pub tree : Expression
  pub next : ℕ
  pub reads : expression_in rounds ws v stop at ≡ read tree next

-- two of them, one after the other
pub record StandTwo (ws : List ℕ) (v at : ℕ) : Type 0 where
  pub rounds : ℕ
  pub stop : ℕ
  pub first : Expression
  pub mid : ℕ
  pub second : Expression
  pub next : ℕ
  pub reads_first : expression_in rounds ws v stop at ≡ read first mid
  pub reads_second : expression_in rounds ws v stop mid ≡ read second next

-- one that begins with an operator: with neither a constant nor a variable
pub record HasOperator (ws : List ℕ) (v at : ℕ) : Type 0 where
  pub stands : Stands ws v at
  pub no_constant : kind (get_or ws at 0) ≡ 7 → ⊥
  pub no_variable : kind (get_or ws at 0) ≡ 8 → ⊥

-- what is told is the value of the tree that is read, if one is, and the position after it
abbrev pub Tells : List ℕ → Evaluated → Reading Expression → Type 0
Tells bs r x = (tree : Expression) (next : ℕ) → x ≡ read tree next → evaluated r ≡ valued (value house_table (lent bs) tree) next

-- of the reading at a position, by any number of rounds and before any position
pub record IsEvaluated (ws bs : List ℕ) (at : ℕ) (r : Evaluated) : Type 0 where
  pub same : (rounds stop : ℕ) → Tells bs r (expression_in rounds ws (length bs) stop at)
  pub later : at < r.next

-- the same of what follows an operator: two operands
pub record IsTwo (ws bs : List ℕ) (k at : ℕ) (r : Evaluated) : Type 0 where
  pub same : (rounds stop : ℕ) → Tells bs r (operands (expression_in rounds ws (length bs) stop) (binary_head (operator_of k)) at)
  pub later : at < r.next

-- and of what follows a load: one
pub record IsLoaded (ws bs : List ℕ) (at : ℕ) (r : Evaluated) : Type 0 where
  pub same : (rounds stop : ℕ) → Tells bs r (operands (expression_in rounds ws (length bs) stop) load_head at)
  pub later : at < r.next
