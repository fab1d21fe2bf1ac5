-- The rules of passing over an expression: where it leads, from its head and from where its operands lead. Each is one arm of the code.
use mathlib.Core.Path.{◌≡◌, refl, sym, ◌∙◌}
use mathlib.Core.List.{List}
use Prim.Native.Nat.{ℕ, ◌+◌, ◌-◌, ◌<◌}
use native.Mathlib.Omega.{arith}
use borrow.Author.Rules.{rules}
use lib.IntN.{ℤ}
use Rattle.semantics.specs.Expression.{Operator, Expression, binary}
use Rattle.semantics.specs.Reading.{Reading, read, refused, then, Reader, give}
use Rattle.semantics.specs.ReadNet.{expression_in}
use Rattle.word.specs.Operator.{operator_of}
use Rattle.std.specs.Prelude.{Result, Ok, Err}
use Rattle.semantics.specs.declared.refusal.Refusal.{Refusal}
use Rattle.expression.specs.declared.head.Head.{Head}
use Rattle.expression.specs.declared.head.Head.TheVariants.{Constant, Variable, Binary, Load}
use Rattle.expression.specs.Head.{Onward, IsHead}
use Rattle.expression.specs.Skip.{forget, Passes, IsPassed}
use Rattle.expression.proofs.Heads.{onward-more, head-onward, headed, head-falls}

-- ── Readings without what was read ──

pub forget-then : {A B : Type 0} (x : Reading A) (k : A → ℕ → Reading B) (j : ℕ → Reading (Unit {0})) → ((a : A) (mid : ℕ) → forget (k a mid) ≡ j mid) → forget (then x k) ≡ then (forget x) (λ _ mid. j mid)
forget-then (read a mid) k j h = h a mid
forget-then (refused n p) k j h = refl

forget-map : {A B : Type 0} (f : A → B) (x : Reading A) → forget (then x (λ a. give (f a))) ≡ forget x
forget-map f (read a next) = refl
forget-map f (refused n p) = refl

forget_both : (o : Operator) (r : Reader Expression) (x : Reading Expression) → forget (then x (λ a mid. then (r mid) (λ b next. read (binary o a b) next))) ≡ then (forget x) (λ _ mid. forget (r mid))
forget_both o r x = forget-then x (λ a mid. then (r mid) (λ b next. read (binary o a b) next)) (λ mid. forget (r mid)) (λ a mid. forget-map (binary o a) (r mid))

-- ── The rules ──

passes_more : {ws : List ℕ} {at left a l : ℕ} → Onward ws at left a l → (r : Result (ℕ × ℕ) Refusal) → Passes ws a l r → Passes ws at left r
passes_more q (Ok r) p = onward-more q p
passes_more q (Err e) h = tt

passed-onward : {ws : List ℕ} {variables at left : ℕ} {r s : Result (ℕ × ℕ) Refusal} → IsPassed ws variables at left r → r ≡ s → Passes ws at left s
passed-onward x e = rw e at x.onward

module _ {ws : List ℕ} {variables at left : ℕ} {t : Result Head Refusal} (x : IsHead ws variables at left t) where
  pub refused-head : {e : Refusal} → t ≡ Err e → IsPassed ws variables at left (Err e)
  refused-head e = record { same = λ rounds stop h s. rw (headed x e rounds stop h s); onward = tt }

  pub constant-head : {z : ℤ} → t ≡ Ok (Constant z) → IsPassed ws variables at left (Ok (at + 1, left - 1))
  constant-head e = record { same = λ rounds stop h s. rw (headed x e rounds stop h s); onward = head-onward x e }

  pub variable-head : {n : ℕ} → t ≡ Ok (Variable n) → IsPassed ws variables at left (Ok (at + 1, left - 1))
  variable-head e = record { same = λ rounds stop h s. rw (headed x e rounds stop h s); onward = head-onward x e }

  pub load_operand : {r : Result (ℕ × ℕ) Refusal} → t ≡ Ok Load → IsPassed ws variables (at + 1) (left - 1) r → IsPassed ws variables at left r
  load_operand {r} e y =
      let q : Onward ws at left (at + 1) (left - 1) = head-onward x e in
      record {
        same = λ rounds stop h s. rw (headed x e rounds stop h s) (y.same (rounds - 1) stop (omega arith) (omega arith) ∙ sym (forget-map _ (expression_in (rounds - 1) ws variables stop (at + 1))));
        onward = passes_more q r y.onward;
      }

  module _ {k : ℕ} {r : Result (ℕ × ℕ) Refusal} (e : t ≡ Ok (Binary k)) (y : IsPassed ws variables (at + 1) (left - 1) r) where
    pub first-refused : {f : Refusal} → r ≡ Err f → IsPassed ws variables at left (Err f)
    first-refused d =
        let q : Onward ws at left (at + 1) (left - 1) = head-onward x e in
        record {
          same = λ rounds stop h s. rw (headed x e rounds stop h s, forget_both (operator_of k) (expression_in (rounds - 1) ws variables stop), ← y.same (rounds - 1) stop (omega arith) (omega arith), d);
          onward = tt;
        }

    pub second_operand : {p : ℕ × ℕ} {s : Result (ℕ × ℕ) Refusal} → r ≡ Ok p → IsPassed ws variables p.0 p.1 s → IsPassed ws variables at left s
    second_operand {p} {s} d z =
        let q : Onward ws at left (at + 1) (left - 1) = head-onward x e in
        let o : Onward ws (at + 1) (left - 1) p.0 p.1 = passed-onward y d in
        record {
          same = λ rounds stop h i. rw (headed x e rounds stop h i, forget_both (operator_of k) (expression_in (rounds - 1) ws variables stop), ← y.same (rounds - 1) stop (omega arith) (omega arith), d) (z.same (rounds - 1) stop (omega arith) (omega arith));
          onward = passes_more (onward-more q o) s z.onward;
        }

    -- the second operand has fewer words left; n is the measure
    pub second-falls : {p : ℕ × ℕ} {n : ℕ} → r ≡ Ok p → left ≡ n → p.1 < n
    second-falls {p} d i =
        let q : Onward ws at left (at + 1) (left - 1) = head-onward x e in
        let o : Onward ws (at + 1) (left - 1) p.0 p.1 = passed-onward y d in
        omega arith

pub ruleset passing = (rules, refused-head, constant-head, variable-head, load_operand, first-refused, second_operand, head-falls, second-falls)
