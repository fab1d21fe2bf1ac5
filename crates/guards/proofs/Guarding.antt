-- The rules of a conjunct and of the loop over a guard. A conjunct: its sides stand one after the other. The loop: the
-- conjuncts ahead hold just where all did at first.
use mathlib.Core.Path.{◌≡◌, refl}
use Prim.Native.Nat.{ℕ, ◌+◌, ◌≤◌, ◌<◌}
use mathlib.Core.Bool.{Bool, true, false, ◌&&◌}
use mathlib.Core.List.{List}
use mathlib.Core.Option.{Option, none}
use native.Mathlib.Numerals.{add-one}
use native.Mathlib.Omega.{arith}
use borrow.Author.Rules.{rules}
use mir.Syntax.{w64}
use mir.Val.{Fits}
use lib.IntN.{ℤ}
use lib.ListN.{length, get_or, drop, drop_of_length-le}
use lib.Seq.{drop-cons}
use Rattle.semantics.specs.Lists.{Every}
use Rattle.semantics.specs.Word.{payload}
use Rattle.semantics.specs.Expression.{house_table, value}
use Rattle.semantics.specs.Reading.{read}
use Rattle.semantics.specs.ReadNet.{read_expression, relation_of, read_conjunct}
use Rattle.semantics.specs.Enabling.{compared, holds}
use Rattle.semantics.proofs.Members.{every-number}
use Rattle.expression.specs.Standing.{HasExpression}
use Rattle.evaluation.specs.Evaluate.{lent, valued, evaluated_from}
use Rattle.net.specs.Standing.{HasConjunct}
use Rattle.net.proofs.Standing.{sides, left-stands, right-stands, left-inside}
use Rattle.guards.specs.Guard.{conjunct_holds, guard_at}
use Rattle.evaluation.proofs.Answers.{read-value}

-- ── A conjunct ──

module _ (ws bs : List ℕ) (at : ℕ) (h : HasConjunct ws (length bs) at) where
  pub conjunct-inside : at < length ws
  conjunct-inside = (sides h).inside

  pub left-fits : Fits w64 (at + 1)
  left-fits = let l = (left-inside h).1 in record { fits = omega arith }

  module _ {x : Option ℤ} {mid : ℕ} (e : valued x mid ≡ evaluated_from (lent bs) (read_expression ws (length bs) (at + 1))) where
    left-value : (value house_table (lent bs) h.conjunct.left ≡ x) × (mid ≡ (sides h).mid)
    left-value = read-value ws (length bs) (at + 1) (sides h).left bs refl e

    pub left-none : x ≡ none → false ≡ conjunct_holds (lent bs) (read_conjunct ws (length bs) at)
    unfolding holds
    left-none d = rw (h.reads, left-value.0, d)

    -- the right side stands where the left one ends
    pub right_there : HasExpression ws (length bs) mid
    right_there = rw left-value.1 (right-stands h)

    right : read_expression ws (length bs) mid ≡ read h.conjunct.right (sides h).next
    right = rw left-value.1 (sides h).right

    module _ {y : Option ℤ} {last : ℕ} (f : valued y last ≡ evaluated_from (lent bs) (read_expression ws (length bs) mid)) where
      pub both_told : {k : ℕ} {b : Bool} → k ≡ payload (get_or ws at 0) → b ≡ compared (relation_of k) x y → b ≡ conjunct_holds (lent bs) (read_conjunct ws (length bs) at)
      unfolding holds
      both_told k g = rw (h.reads, left-value.0, (read-value ws (length bs) mid right bs refl f).0, (sides h).relation, ← k) g

pub ruleset conjuncts = (rules, conjunct-inside, left-fits, left-stands, left-none, right_there, both_told)

-- ── A guard ──

-- the conjuncts from i on hold just where all do
pub record Guarding (ws bs ats : List ℕ) (i : ℕ) : Type 0 where
  pub inside : i ≤ length ats
  pub same : guard_at ws bs (drop i ats) ≡ guard_at ws bs ats

-- a conjunct stands at each position
pub conjunct-there : (ws ats : List ℕ) (v i : ℕ) → Every (HasConjunct ws v) ats → i < length ats → HasConjunct ws v (get_or ats i 0)
conjunct-there ws ats v i e h = every-number (HasConjunct ws v) ats i 0 e h

pub guarding_start : (ws bs ats : List ℕ) → Guarding ws bs ats 0
guarding_start ws bs ats = record { inside = omega arith; same = refl }

module _ {ws bs ats : List ℕ} {i : ℕ} (g : Guarding ws bs ats i) where
  pub guarding_end : length ats ≤ i → true ≡ guard_at ws bs ats
  unfolding guard_at
  guarding_end h = rw (drop_of_length-le ats {i = i} h) at g.same

  module _ (h : i < length ats) {b : Bool} (x : b ≡ conjunct_holds (lent bs) (read_conjunct ws (length bs) (get_or ats i 0))) where
    one_ahead : (b && guard_at ws bs (drop (i + 1) ats)) ≡ guard_at ws bs ats
    unfolding guard_at
    one_ahead = rw (add-one i, x) (rw (drop-cons ats i 0 h) at g.same)

    pub guarding_turn : b ≡ true → Guarding ws bs ats (i + 1)
    guarding_turn e = record { inside = omega arith; same = rw e at one_ahead }

    pub guarding_stop : b ≡ false → false ≡ guard_at ws bs ats
    guarding_stop e = rw e at one_ahead

pub ruleset guarding = (rules, conjunct-there, guarding_start, guarding_turn, guarding_stop, guarding_end)
