-- The first word of an expression, as the code tells it, and what its contracts say.
-- Rests on semantics/specs/ReadNet and word/specs/Operator.
use Rattle.std.specs.Prelude.{◌≡◌, List, ℕ, ◌+◌, ◌-◌, ◌≤◌, ◌<◌, length, Result, Ok, Err}
use Rattle.semantics.specs.Refusal.{most_words}
use Rattle.semantics.specs.declared.refusal.Refusal.{Refusal}
use Rattle.semantics.specs.Reading.{Reading, read}
use Rattle.semantics.specs.Answer.{refusing}
use Rattle.semantics.specs.ReadNet as net
use Rattle.semantics.specs.ReadNet.{constant_head, variable_head, binary_head, load_head, head_of, head_at}
use Rattle.word.specs.Operator.{operator_of}
use Rattle.expression.specs.declared.head.Head.{Head}
use Rattle.expression.specs.declared.head.Head.TheVariants.{Constant, Variable, Binary, Load}

abbrev pub headed : Head → net.Head
headed (Constant z) = constant_head z
headed (Variable n) = variable_head n
headed (Binary k) = binary_head (operator_of k)
headed Load = load_head

-- the reading of the head at a position
abbrev pub head : ℕ → Result Head Refusal → Reading net.Head
head at (Ok t) = read (headed t) (at + 1)
head at (Err e) = refusing e

-- from a position to a later one in the words, the words left falling by as many as are passed
pub record Onward (ws : List ℕ) (at left next rest : ℕ) : Type 0 where
  pub later : at < next
  pub same_end : next + rest ≡ at + left
  pub in_words : next ≤ length ws
  pub in_limit : next ≤ most_words

-- a variable is one that there is
abbrev pub InRange : ℕ → Result Head Refusal → Type 0
InRange variables (Ok (Variable n)) = n < variables
InRange variables (Ok (Constant z)) = Unit {0}
InRange variables (Ok (Binary k)) = Unit {0}
InRange variables (Ok Load) = Unit {0}
InRange variables (Err e) = Unit {0}

-- the word w as the head at a position
pub record IsWord (w variables at : ℕ) (r : Result Head Refusal) : Type 0 where
  pub same : head at r ≡ head_of variables w at (at + 1)
  pub in_range : InRange variables r

-- what follows a head is one word onward
abbrev pub HeadOnward : List ℕ → ℕ → ℕ → Result Head Refusal → Type 0
HeadOnward ws at left (Ok t) = Onward ws at left (at + 1) (left - 1)
HeadOnward ws at left (Err e) = Unit {0}

-- the head at a position; the sixteenth word would stand where the words left end
pub record IsHead (ws : List ℕ) (variables at left : ℕ) (r : Result Head Refusal) : Type 0 where
  pub same : head at r ≡ head_at ws variables (at + left) at
  pub in_range : InRange variables r
  pub onward : HeadOnward ws at left r
