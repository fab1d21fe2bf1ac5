-- The rules of a solve. Each rule is one arm of the code.
-- In the loop over words the answer for the words ahead is the answer for all of them. A solve binds what the first side binds, or what the
-- second does where the first binds nothing.
use mathlib.Core.Path.{◌≡◌, refl, sym, ap, ◌∙◌, subst, fun_ext}
use Prim.Native.Nat.{ℕ, ◌+◌, ◌≤◌, ◌<◌}
use mathlib.Core.Bool.{Bool, true, false, ◌&&◌, ◌||◌}
use mathlib.Core.List.{List, [], ◌∷◌}
use native.Mathlib.Omega.{arith}
use Rattle.std.specs.Prelude.{Result, Ok, Err}
use native.Mathlib.Numerals.{add-one}
use borrow.Author.Rules.{rules}
use borrow.Author.Tests.{ne_eqb}
use lib.ListN.{length, take, get_or, get_or-eq_default, drop_of_length-le}
use lib.Seq.{slice-cons, length-take-le}
use Rattle.semantics.specs.Lists.{every}
use Rattle.semantics.specs.Plan.{member}
use Rattle.semantics.specs.Word.{kind, payload}
use Rattle.semantics.proofs.Tests.{false_true}
use Rattle.semantics.specs.declared.refusal.Refusal.{Refusal}
use Rattle.expression.specs.Skip.{skipped}
use Rattle.expression.proofs.Laws.{variable_passes}
use Rattle.kinds.specs.Taken.{IsTaken}
use Rattle.net.specs.Skim.{skim_expression}
use Rattle.net.proofs.Structures.{word-told}
use Rattle.elements.specs.Binds.{lone_at, all_bound, solved_at, first_of, solve_at}
use Rattle.elements.specs.Bound.{marked, non_empty, IsBound}
use Rattle.elements.proofs.Binding.{bound-none}

-- ── Words with only bound variables ──

module _ (marks : List Bool) (w : ℕ) {k : ℕ} (e : k ≡ kind w) where
  pub passes_other : (k ≡ 8 → ⊥) → true ≡ variable_passes (marked marks) w
  passes_other q = rw (← e, ne_eqb k 8 q)

  pub passes_variable : {n : ℕ} → k ≡ 8 → n ≡ payload w → marked marks n ≡ variable_passes (marked marks) w
  passes_variable q d = rw (← e, q, d)

  pub passes_beyond : {n : ℕ} → k ≡ 8 → n ≡ payload w → length marks ≤ n → false ≡ variable_passes (marked marks) w
  passes_beyond {n} q d h = sym (get_or-eq_default marks false {n = n} h) ∙ passes_variable q d

module _ (ws : List ℕ) (p : ℕ → Bool) (at to : ℕ) (l : to ≤ length ws) where
  pub bound-end : {t : Bool} → all_bound ws p at to ≡ t → to ≤ at → true ≡ t
  unfolding all_bound every
  bound-end a h =
      let e : length (take to ws) ≡ to = length-take-le to ws l in
      rw (drop_of_length-le (take to ws) {i = at} (omega arith)) at a

  module _ {t r : Bool} (a : all_bound ws p at to ≡ t) (h : at < to) (x : r ≡ variable_passes p (get_or ws at 0)) where
    step : (r && all_bound ws p (at + 1) to) ≡ t
    unfolding all_bound every
    step = rw (add-one at, x) (rw (slice-cons at to ws 0 h l) at a)

    pub bound_turn : r ≡ true → all_bound ws p (at + 1) to ≡ t
    bound_turn q = rw q at step

    pub bound-stop : r ≡ false → false ≡ t
    bound-stop q = rw q at step

-- ── One side ──

module _ (ws : List ℕ) (v at from to : ℕ) (marks : List Bool) {t : Bool} (e : t ≡ all_bound ws (marked marks) from to) where
  pub side_known : {r : Bool} {marks' : List Bool} → t ≡ true → IsBound marks (lone_at ws v (marked marks) at) r marks' → IsBound marks (solved_at ws v (marked marks) at from to) r marks'
  side_known q x = rw (← e, q) x

  pub side_unknown : t ≡ false → IsBound marks (solved_at ws v (marked marks) at from to) false marks
  side_unknown q = rw (← e, q) (bound-none marks)

-- ── A solve ──

-- what was bound first, if anything, or else what is bound next
first_some : (ms ns : List ℕ) {marks marks' : List Bool} {r : Bool} → IsBound marks ms r marks' → r ≡ true → IsBound marks (first_of ms ns) true marks'
first_some [] ns x q = false_true (sym x.some ∙ q)
first_some (m ∷ ms) ns x q = record { some = refl; marks = x.marks }

-- where nothing was bound the marks are as they were
first-none : (ms : List ℕ) (f : (ℕ → Bool) → List ℕ) {marks marks' marks'' : List Bool} {r s : Bool} → IsBound marks ms r marks' → r ≡ false → IsBound marks' (f (marked marks')) s marks'' → IsBound marks (first_of ms (f (marked marks))) s marks''
unfolding member
first-none [] f {marks} {marks'} {marks''} {r} {s} x q y =
    let e : marked marks' ≡ marked marks = fun_ext x.marks in
    record {
      some = subst (λ (p : ℕ → Bool). s ≡ non_empty (f p)) e y.some;
      marks = λ k. subst (λ (p : ℕ → Bool). marked marks'' k ≡ (member (f p) k || p k)) e (y.marks k);
    }
first-none (m ∷ ms) f x q y = false_true (sym q ∙ x.some)

module _ (ws : List ℕ) (v at : ℕ) (marks : List Bool) {t : Result ℕ Refusal} (w : IsTaken ws at 6 t) where
  pub solve-refused : {e : Refusal} → t ≡ Err e → IsBound marks (solve_at ws v (marked marks) at) false marks
  unfolding solve_at
  solve-refused e = rw (word-told w e) (bound-none marks)

  pub solve-other : {k : ℕ} → t ≡ Ok k → (k ≡ 0 → ⊥) → IsBound marks (solve_at ws v (marked marks) at) false marks
  unfolding solve_at
  solve-other {k} e q = rw (word-told w e, ne_eqb k 0 q) (bound-none marks)

  module _ {k : ℕ} (e : t ≡ Ok k) (z : k ≡ 0) {s : Result ℕ Refusal} (x : skipped s ≡ skim_expression ws v (at + 1)) where
    left_is : {u : Result ℕ Refusal} → s ≡ u → skim_expression ws v (at + 1) ≡ skipped u
    left_is d = sym x ∙ ap skipped d

    pub left-refused : {e : Refusal} → s ≡ Err e → IsBound marks (solve_at ws v (marked marks) at) false marks
    unfolding solve_at
    left-refused d = rw (word-told w e, z, left_is d) (bound-none marks)

    module _ {right : ℕ} (d : s ≡ Ok right) {u : Result ℕ Refusal} (y : skipped u ≡ skim_expression ws v right) where
      right_is : {o : Result ℕ Refusal} → u ≡ o → skim_expression ws v right ≡ skipped o
      right_is f = sym y ∙ ap skipped f

      pub right-refused : {e : Refusal} → u ≡ Err e → IsBound marks (solve_at ws v (marked marks) at) false marks
      unfolding solve_at
      right-refused f = rw (word-told w e, z, left_is d, right_is f) (bound-none marks)

      module _ {end : ℕ} (f : u ≡ Ok end) {r : Bool} {marks' : List Bool} (g : IsBound marks (solved_at ws v (marked marks) (at + 1) right end) r marks') where
        pub solve-first : r ≡ true → IsBound marks (solve_at ws v (marked marks) at) true marks'
        unfolding solve_at
        solve-first q = rw (word-told w e, z, left_is d, right_is f) (first_some _ _ g q)

        pub solve-second : {o : Bool} {marks'' : List Bool} → r ≡ false → IsBound marks' (solved_at ws v (marked marks') right (at + 1) right) o marks'' → IsBound marks (solve_at ws v (marked marks) at) o marks''
        unfolding solve_at
        solve-second q i = rw (word-told w e, z, left_is d, right_is f) (first-none _ (λ is_bound. solved_at ws v is_bound right (at + 1) right) g q i)

pub ruleset solving = (rules, side_known, side_unknown, solve-refused, solve-other, left-refused, right-refused, solve-first, solve-second, passes_other, passes_variable, passes_beyond, bound-end, bound_turn, bound-stop)
