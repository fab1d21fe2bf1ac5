-- An evaluated expression as a whole: what `read_expression` reads is read by rounds, before the sixteenth word. A constant and a lone variable are told
-- by the rules of their first word.
use mathlib.Core.Path.{◌≡◌, refl, sym, ap, ◌∙◌}
use mathlib.Core.List.{List}
use mathlib.Core.Option.{Option, none, some}
use Prim.Native.Nat.{ℕ, ◌+◌, ◌%◌, ◌<◌}
use borrow.Author.Rules.{rules}
use mir.Syntax.{w64}
use mir.Val.{Fits}
use lib.IntN.{ℤ}
use lib.ListN.{length, get_or}
use Rattle.semantics.specs.Refusal.{most_expression_words}
use Rattle.semantics.specs.Word.{kind, payload, signed}
use Rattle.semantics.specs.ReadNet.{read_expression}
use Rattle.std.specs.Prelude as prelude
use Rattle.std.specs.Prelude.{Some, None}
use Rattle.semantics.specs.Answer.{option_of}
use Rattle.expression.specs.Standing.{HasExpression}
use Rattle.evaluation.specs.declared.evaluate.Evaluated.{Evaluated}
use Rattle.evaluation.specs.Evaluate.{value_of, lent, valued, evaluated_from, evaluated, Stands, IsEvaluated}
use Rattle.evaluation.proofs.Evaluating.{in_words, next_fits, in_range, constant, variable}

-- ── As a whole ──

pub whole-stands : {ws : List ℕ} {v at : ℕ} → HasExpression ws v at → Stands ws v at
unfolding read_expression
whole-stands {at = at} h = record { rounds = most_expression_words + 1; stop = at + most_expression_words; tree = h.tree; next = h.next; reads = h.reads }

pub whole : {ws bs : List ℕ} {at : ℕ} {r : Evaluated} → HasExpression ws (length bs) at → IsEvaluated ws bs at r → evaluated r ≡ evaluated_from (lent bs) (read_expression ws (length bs) at)
unfolding read_expression
whole {at = at} h x = rw h.reads (x.same (most_expression_words + 1) (at + most_expression_words) h.tree h.next h.reads)

pub ruleset outcomes = (rules, whole-stands, whole)

-- ── By the word ──

module _ {ws : List ℕ} {v at : ℕ} (h : HasExpression ws v at) where
  pub begins_in_words : at < length ws
  begins_in_words = in_words (whole-stands h)

  pub begin-fits : Fits w64 (at + 1)
  begin-fits = next_fits (whole-stands h)

  pub variable-there : {k u : ℕ} → k ≡ kind (get_or ws at 0) → u ≡ payload (get_or ws at 0) → k ≡ 8 → u < v
  variable-there e d i = in_range (whole-stands h) e d i

module _ (ws bs : List ℕ) (at : ℕ) (h : HasExpression ws (length bs) at) {k : ℕ} (e : k ≡ kind (get_or ws at 0)) where
  pub constant_at : {z : ℤ} → k ≡ 7 → z ≡ signed (get_or ws at 0 % 16384) → valued (some z) (at + 1) ≡ evaluated_from (lent bs) (read_expression ws (length bs) at)
  constant_at i f = whole {bs = bs} h (constant {bs = bs} (whole-stands h) e i f refl)

  -- a lone variable has the value of its word
  pub variable_at : {u : ℕ} → u ≡ payload (get_or ws at 0) → k ≡ 8 → evaluated_from (lent bs) (read_expression ws (length bs) at) ≡ valued (value_of (get_or bs u 0)) (at + 1)
  variable_at {u} d i =
      let n = told (value_of (get_or bs u 0)) in
      sym (ap (λ (o : Option ℤ). valued o (at + 1)) (sym n.1) ∙ whole {bs = bs} h (variable {bs = bs} (whole-stands h) e {n = n.0} d i n.1))
    where
      told : (o : Option ℤ) → (n : prelude.Option ℤ) × (option_of n ≡ o)
      told (some z) = (Some z, refl)
      told none = (None, refl)
