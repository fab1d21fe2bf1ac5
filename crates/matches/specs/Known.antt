-- What is known of components on arrival, and what a colour that differs from it is.
-- Rests on semantics/specs/{Word, Tries} and Partial.
use Rattle.std.specs.Prelude.{◌≡◌, Bool, true, false, cond, List, ℕ, ◌+◌, ◌%◌, ◌<◌, eqb, ℤ, get_or}
use Rattle.std.proofs.Math.Option.{Option, none, some}
use Rattle.semantics.specs.Word.{kind, payload, signed}
use Rattle.semantics.specs.Tries.{Partial, partly}
use Rattle.tries.specs.Partial.{partial_of}

-- the value that a component which begins with the word w wants of a colour, where that is settled: that of a constant or of a variable that is bound
abbrev pub wanted : Partial → ℕ → Option ℤ
wanted p w = cond (eqb (kind w) 7) (some (signed (w % 16384))) (cond (eqb (kind w) 8) (partly p (payload w)) none)

-- a word other than 0 has the value that is wanted; 0 says nothing
pub record IsKnown (o : Option ℤ) (k : ℕ) : Type 0 where
  pub right : (k ≡ 0 → ⊥) → o ≡ some (signed (k % 16384))

-- of each component, told by its first word
pub record Knows (v : ℕ) (b parts known : List ℕ) : Type 0 where
  pub each : (i : ℕ) → IsKnown (wanted (partial_of v b) (get_or parts i 0)) (get_or known i 0)

-- the colour at a position has another value at a component where one is known
pub record Differs (ms : List ℕ) (at width : ℕ) (known : List ℕ) : Type 0 where
  pub component : ℕ
  pub inside : component < width
  pub told : get_or known component 0 ≡ 0 → ⊥
  pub other : get_or ms (at + component) 0 % 16384 ≡ get_or known component 0 % 16384 → ⊥

-- what an answer says; a colour that does not differ is held against the components all the same, so of it nothing is said
abbrev pub DiffersIf : List ℕ → ℕ → ℕ → List ℕ → Bool → Type 0
DiffersIf ms at width known true = Differs ms at width known
DiffersIf ms at width known false = Unit {0}
