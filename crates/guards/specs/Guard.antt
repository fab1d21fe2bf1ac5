-- 01, "Enabling and stepping": what guards say under a binding of lent words, told from the positions of conjuncts.
-- occurrence/proofs/Reading shows that it is what semantics says of a transition that was read.
-- Rests on semantics/specs/{ReadNet, Enabling} and evaluation/specs/Evaluate.
use Rattle.std.specs.Prelude.{ℕ, Bool, true, false, ◌&&◌, List, [], ◌∷◌, length}
use Rattle.semantics.specs.Expression.{Environment, house_table}
use Rattle.semantics.specs.Reading.{Reading, read, refused}
use Rattle.semantics.specs.Net.{Conjunct}
use Rattle.semantics.specs.ReadNet.{read_conjunct}
use Rattle.semantics.specs.Enabling.{holds}
use Rattle.evaluation.specs.Evaluate.{lent}

-- "every conjunct holds": one that is read
abbrev pub conjunct_holds : Environment → Reading Conjunct → Bool
conjunct_holds env (read c next) = holds house_table env c
conjunct_holds env (refused n p) = false

-- every conjunct at these positions of the words ws, under the binding words bs
unfoldable pub guard_at : List ℕ → List ℕ → List ℕ → Bool
guard_at ws bs [] = true
guard_at ws bs (at ∷ ats) = conjunct_holds (lent bs) (read_conjunct ws (length bs) at) && guard_at ws bs ats
