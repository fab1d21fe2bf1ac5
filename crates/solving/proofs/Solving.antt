-- The rules of a solve: one for each arm of the code. A conjunct that is read has its left side after its word and its right side after
-- that, and the first word of a side tells whether it is a variable alone; so one look at the left side decides which side is solved for.
use mathlib.Core.Path.{◌≡◌, refl, sym, ap, ◌∙◌}
use mathlib.Core.Logic.{◌⊎◌, inl, inr}
use mathlib.Core.Bool.{Bool, true, false, cond}
use mathlib.Core.List.{List}
use mathlib.Core.Option.{Option, none, some, bind}
use Prim.Native.Nat.{ℕ, ◌+◌, ◌<◌}
use native.Mathlib.Omega.{arith}
use borrow.Author.Tests.{ltb-true}
use lib.Dec.{eqb}
use lib.IntN.{ℤ}
use lib.ListN.{length, take, get_or, get_elem?}
use lib.Seq.{take_all}
use Rattle.semantics.specs.Word.{kind, payload, Range}
use Rattle.semantics.specs.Expression.{Environment, Expression, constant, variable, binary, load, house_table, value, every_variable}
use Rattle.semantics.specs.Reading.{Reading, read}
use Rattle.semantics.specs.Net.{Conjunct}
use Rattle.semantics.specs.ReadNet.{read_expression}
use Rattle.semantics.specs.Plan.{Solution, either_side, solution}
use Rattle.semantics.specs.Tries.{Partial, partly, is_bound_in, bind_new}
use Rattle.semantics.proofs.Readers.{given}
use Rattle.semantics.proofs.Accepted.{SoundExpression, expression_reads}
use Rattle.semantics.proofs.Fitness.{Solves, solution_solves}
use Rattle.std.specs.Prelude.{Some, None}
use Rattle.evaluation.specs.Evaluate.{lent, valued, evaluated_from}
use Rattle.expression.proofs.Spelled.{HeadWord, head_of_tree}
use Rattle.expression.proofs.Laws.{first_word, variable-alone}
use Rattle.evaluation.proofs.Answers.{read-value}
use Rattle.expression.specs.Standing.{HasExpression}
use Rattle.net.specs.Standing.{HasConjunct}
use Rattle.net.proofs.Standing.{sides, right-stands, right-inside}
use Rattle.tries.specs.Partial.{partial_of, bound_by}
use Rattle.solving.specs.Solve.{value_told, value_for, IsLone, bound_at, unbound_alone, alone, side_of, solved_by, solved_from, solved_at}
use Rattle.tries.proofs.Slots.{slots_lent}

-- ── A value that may be missing ──

-- slots as many as variables
pub slots_stand : {ws : List ℕ} {v n at : ℕ} → n ≡ v → HasExpression ws v at → HasExpression ws n at
slots_stand l h = rw l h

-- all of them are looked at
pub first-slots : (v : ℕ) (b : List ℕ) → length b ≡ v → take v b ≡ b
first-slots v b l = take_all v b (omega arith)

module _ (ws b : List ℕ) (v at : ℕ) (l : length b ≡ v) {o : Option ℤ} {q : ℕ} (h : valued o q ≡ evaluated_from (lent b) (read_expression ws (length b) at)) where
  told : value_for ws v b at ≡ o
  told = rw (first-slots v b l) (sym (ap value_told (rw l at h)))

  module _ (ranges : List Range) (n : ℕ) where
    pub bound-value : {z : ℤ} → o ≡ some z → bind_new (partial_of v b) n (get_elem? ranges n) z ≡ bound_by ranges (partial_of v b) n (value_for ws v b at)
    unfolding bind
    bound-value d = rw (told, d)

    pub bound-none : o ≡ none → none ≡ bound_by ranges (partial_of v b) n (value_for ws v b at)
    unfolding bind
    bound-none d = rw (told, d)

-- ── Which side is solved for ──

module _ (ranges : List Range) (p : Partial) where
  -- the left side is an unbound variable alone
  by_left : (c : Conjunct) (n : ℕ) → c.left ≡ variable n → is_bound_in p n ≡ false → solved_by ranges p c ≡ bound_by ranges p n (value house_table (partly p) c.right)
  unfolding bind
  by_left c n e q = rw (e, q)

  -- the left side has no unbound variable alone
  module _ (c : Conjunct) (u : unbound_alone (is_bound_in p) c.left ≡ none) where
    by_right : (w : ℕ) (z : ℤ) → HeadWord w (head_of_tree c.right) → value house_table (partly p) c.left ≡ some z → cond (eqb (kind w) 8) (bind_new p (payload w) (get_elem? ranges (payload w)) z) none ≡ solved_by ranges p c
    unfolding bind
    by_right w z h e = rw u (by c.right h)
      where
        by : (b : Expression) → HeadWord w (head_of_tree b) → cond (eqb (kind w) 8) (bind_new p (payload w) (get_elem? ranges (payload w)) z) none ≡ bind (either_side none (alone b) c.left b) (λ s. bound_by ranges p s.unknown (value house_table (partly p) s.known))
        by (constant y) k = rw k.0
        by (variable m) k = rw (k.0, k.1, e)
        by (binary o x y) k = rw k
        by (load x) k = rw k

    by_none : value house_table (partly p) c.left ≡ none → none ≡ solved_by ranges p c
    unfolding bind
    by_none e = rw u (by c.right)
      where
        by : (b : Expression) → none ≡ bind (either_side none (alone b) c.left b) (λ s. bound_by ranges p s.unknown (value house_table (partly p) s.known))
        by (constant y) = refl
        by (variable m) = rw e
        by (binary o x y) = refl
        by (load x) = refl

-- a variable alone that is there is bound
not_unbound : (v w : ℕ) (p : Partial) → (kind w ≡ 8 → payload w < v → is_bound_in p (payload w) ≡ true) → (e : Expression) → HeadWord w (head_of_tree e) → SoundExpression v e → unbound_alone (is_bound_in p) e ≡ none
unfolding every_variable
not_unbound v w p f (constant z) h s = refl
not_unbound v w p f (variable n) h s = let q : is_bound_in p n ≡ true = rw h.1 (f h.0 (rw h.1 at (ltb-true n v s))) in rw q
not_unbound v w p f (binary o x y) h s = refl
not_unbound v w p f (load x) h s = refl

-- ── The arms ──

module _ {ws : List ℕ} {v at : ℕ} (h : HasConjunct ws v at) (b : List ℕ) where
  same : (e : Expression) → value house_table (lent (take v b)) e ≡ value house_table (partly (partial_of v b)) e
  same e = ap (λ (env : Environment). value house_table env e) (slots_lent v b)

  known : length b ≡ v → value house_table (partly (partial_of v b)) h.conjunct.left ≡ value house_table (lent b) h.conjunct.left
  known l = sym (same h.conjunct.left) ∙ ap (λ (bs : List ℕ). value house_table (lent bs) h.conjunct.left) (first-slots v b l)

  settled : IsLone ws v b (at + 1) None → unbound_alone (is_bound_in (partial_of v b)) h.conjunct.left ≡ none
  settled k = not_unbound v (get_or ws (at + 1) 0) (partial_of v b) k h.conjunct.left (first_word ws v (at + 1) (sides h).left) (given (expression_reads ws v (at + 1)) (sides h).left).0

  -- behind an unbound variable alone stands the right side
  pub behind-lone : {n : ℕ} → IsLone ws v b (at + 1) (Some n) → HasExpression ws v (at + 2)
  behind-lone k = let m : (sides h).mid ≡ at + 2 = (variable-alone ws v (at + 1) (sides h).left k.0).1 ∙ omega arith in rw (← m) (right-stands h)

  module _ (ranges : List Range) where
    answer : solved_by ranges (partial_of v b) h.conjunct ≡ solved_at ws ranges v (partial_of v b) at
    answer = sym (ap (solved_from ranges (partial_of v b)) h.reads)

    -- the left side is an unbound variable alone
    pub left_unbound : {n : ℕ} → IsLone ws v b (at + 1) (Some n) → {x : Option Partial} → x ≡ bound_by ranges (partial_of v b) n (value_for ws v b (at + 2)) → x ≡ solved_at ws ranges v (partial_of v b) at
    left_unbound {n} k f =
        let s = sides h in
        let a = variable-alone ws v (at + 1) s.left k.0 in
        let m : s.mid ≡ at + 2 = a.1 ∙ omega arith in
        let r : read_expression ws v (at + 2) ≡ read h.conjunct.right s.next = rw m at s.right in
        f
        ∙ ap (bound_by ranges (partial_of v b) n) (ap (λ (x : Reading Expression). value_told (evaluated_from (lent (take v b)) x)) r ∙ same h.conjunct.right)
        ∙ sym (by_left ranges (partial_of v b) h.conjunct n (a.0 ∙ ap variable (sym k.1)) k.3)
        ∙ answer

    -- it is not
    module _ (k : IsLone ws v b (at + 1) None) (l : length b ≡ v) {o : Option ℤ} {q : ℕ} (e : valued o q ≡ evaluated_from (lent b) (read_expression ws (length b) (at + 1))) where
      pub left-value : {z : ℤ} → o ≡ some z → {x : Option Partial} → x ≡ bound_at ws ranges (partial_of v b) q z → x ≡ solved_at ws ranges v (partial_of v b) at
      left-value {z} d f =
          let y = read-value ws v (at + 1) (sides h).left b l e in
          f
          ∙ ap (λ (i : ℕ). bound_at ws ranges (partial_of v b) i z) y.1
          ∙ by_right ranges (partial_of v b) h.conjunct (settled k) (get_or ws (sides h).mid 0) z (first_word ws v (sides h).mid (sides h).right) (known l ∙ y.0 ∙ d)
          ∙ answer

      pub left-none : o ≡ none → none ≡ solved_at ws ranges v (partial_of v b) at
      left-none d = by_none ranges (partial_of v b) h.conjunct (settled k) (known l ∙ (read-value ws v (at + 1) (sides h).left b l e).0 ∙ d) ∙ answer

  -- the right side begins where the left one ends
  pub left-ends : length b ≡ v → {o : Option ℤ} {q : ℕ} → valued o q ≡ evaluated_from (lent b) (read_expression ws (length b) (at + 1)) → q < length ws
  left-ends l e = rw (read-value ws v (at + 1) (sides h).left b l e).1 (right-inside h)

-- ── The side that the semantics solves for ──

computed_bound : (is_bound : ℕ → Bool) (e : Expression) → every_variable is_bound e ≡ true → unbound_alone is_bound e ≡ none
unfolding every_variable
computed_bound is_bound (constant z) h = refl
computed_bound is_bound (variable n) h = rw h
computed_bound is_bound (binary o x y) h = refl
computed_bound is_bound (load x) h = refl

-- where a side fits, a look at the left side finds it
pub side_is : (is_bound : ℕ → Bool) (c : Conjunct) (s : Solution) → solution is_bound c ≡ some s → side_of is_bound c ≡ some s
side_is is_bound c s e = by (solution_solves is_bound c s e) (solution_solves is_bound c s e).sides
  where
    by : Solves is_bound c s → ((c.left ≡ variable s.unknown) × (c.right ≡ s.known)) ⊎ ((c.right ≡ variable s.unknown) × (c.left ≡ s.known)) → side_of is_bound c ≡ some s
    by k (inl q) = rw (q.0, q.1, k.unbound)
    by k (inr q) = rw (q.0, q.1, computed_bound is_bound s.known k.computed)
