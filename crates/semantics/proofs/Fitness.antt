-- What a fit element is: refusal 5 read as facts. For a match, a solve and a range, the arc, the conjunct or the variable that it names,
-- and the variables that it binds. Each law takes the test of `newly_bound` apart in the order in which it is made.
use mathlib.Core.Path.{◌≡◌, refl, sym, ap, ◌∙◌}
use mathlib.Core.Logic.{◌⊎◌, inl, inr}
use mathlib.Core.Bool.{Bool, true, false, not, cond, ◌&&◌}
use mathlib.Core.List.{List, [], ◌∷◌, ◌++◌}
use mathlib.Core.Option.{Option, none, some}
use Prim.Native.Nat.{ℕ, zero, suc, ◌<◌}
use native.Mathlib.Omega.{arith}
use borrow.Author.Tests.{ltb-true, not-true}
use lib.Dec.{ltb}
use lib.IntN.{pos, negsuc}
use lib.ListN.{length, get_elem?}
use Rattle.semantics.specs.Expression.{Expression, constant, variable, binary, load, every_variable}
use Rattle.semantics.specs.Net.{Arc, Relation, equal, unequal, less, at_most, Conjunct, match, solve, range, Element, Transition}
use Rattle.semantics.specs.Plan.{lone_unbound, positive_constant, solved_by, Solution, either_side, is_equation, solution, match_binds, solution_binds, solve_binds, newly_bound, member, every_below, fit_or, plan_fault}
use Rattle.semantics.proofs.Tests.{false_true, either, and_left, and_right, cond_true, cond_false}
use Rattle.semantics.proofs.Members.{none-some}

nil_cons : {n : ℕ} {ns : List ℕ} {X : Type 0} → ◌≡◌ {A = List ℕ} [] (n ∷ ns) → X
nil_cons e = let z : ◌≡◌ {A = ℕ} 0 1 = cc in absurd (omega arith)

-- ── Match ──

pub record FitMatch (t : Transition) (is_bound : ℕ → Bool) (k : ℕ) (ns : List ℕ) : Type 0 where
  pub arc : Arc
  pub named : get_elem? t.inputs k ≡ some arc
  pub amount : ℕ
  pub takes : arc.coefficient ≡ constant (pos (suc amount))
  pub binds : lone_unbound is_bound arc.components ≡ ns

takes_one : (e : Expression) → positive_constant e ≡ true → (n : ℕ) × (e ≡ constant (pos (suc n)))
takes_one (constant (pos zero)) h = false_true h
takes_one (constant (pos (suc n))) h = (n, refl)
takes_one (constant (negsuc n)) h = false_true h
takes_one (variable n) h = false_true h
takes_one (binary o a b) h = false_true h
takes_one (load a) h = false_true h

pub fit-match : (t : Transition) (is_bound : ℕ → Bool) (k n : ℕ) (ns : List ℕ) → newly_bound t is_bound (match k) ≡ n ∷ ns → FitMatch t is_bound k (n ∷ ns)
unfolding newly_bound
fit-match t is_bound k n ns e = by (get_elem? t.inputs k) refl e
  where
    taken : (a : Arc) → get_elem? t.inputs k ≡ some a → (positive_constant a.coefficient ≡ true) ⊎ (positive_constant a.coefficient ≡ false) → cond (positive_constant a.coefficient) (lone_unbound is_bound a.components) [] ≡ n ∷ ns → FitMatch t is_bound k (n ∷ ns)
    taken a q (inl s) h =
        let w = takes_one a.coefficient s in
        record { arc = a; named = q; amount = w.0; takes = w.1; binds = sym (cond_true (positive_constant a.coefficient) (lone_unbound is_bound a.components) [] s) ∙ h }
    taken a q (inr s) h = nil_cons (sym (cond_false (positive_constant a.coefficient) (lone_unbound is_bound a.components) [] s) ∙ h)

    by : (o : Option Arc) → get_elem? t.inputs k ≡ o → match_binds is_bound o ≡ n ∷ ns → FitMatch t is_bound k (n ∷ ns)
    by none q h = nil_cons h
    by (some a) q h = taken a q (either (positive_constant a.coefficient)) h

-- ── Solve ──

-- one side is the unknown alone, the other is known
pub record Solves (is_bound : ℕ → Bool) (c : Conjunct) (s : Solution) : Type 0 where
  pub equation : c.relation ≡ equal
  pub unbound : is_bound s.unknown ≡ false
  pub computed : every_variable is_bound s.known ≡ true
  pub sides : ((c.left ≡ variable s.unknown) × (c.right ≡ s.known)) ⊎ ((c.right ≡ variable s.unknown) × (c.left ≡ s.known))

solved_side : (is_bound : ℕ → Bool) (e other : Expression) (n : ℕ) → solved_by is_bound e other ≡ some n → (e ≡ variable n) × ((is_bound n ≡ false) × (every_variable is_bound other ≡ true))
solved_side is_bound (constant z) other n h = none-some h
solved_side is_bound (binary o a b) other n h = none-some h
solved_side is_bound (load a) other n h = none-some h
solved_side is_bound (variable k) other n h = by (either (not (is_bound k) && every_variable is_bound other))
  where
    by : ((not (is_bound k) && every_variable is_bound other) ≡ true) ⊎ ((not (is_bound k) && every_variable is_bound other) ≡ false) → (variable k ≡ variable n) × ((is_bound n ≡ false) × (every_variable is_bound other ≡ true))
    by (inl q) =
        let w : some k ≡ some n = sym (cond_true (not (is_bound k) && every_variable is_bound other) (some k) none q) ∙ h in
        let v : k ≡ n = cc in
        (ap variable v, (rw (← v) (not-true (is_bound k) (and_left (not (is_bound k)) (every_variable is_bound other) q)), and_right (not (is_bound k)) (every_variable is_bound other) q))
    by (inr q) = none-some (sym (cond_false (not (is_bound k) && every_variable is_bound other) (some k) none q) ∙ h)

is_equation_lem : (r : Relation) → is_equation r ≡ true → r ≡ equal
is_equation_lem equal h = refl
is_equation_lem unequal h = false_true h
is_equation_lem less h = false_true h
is_equation_lem at_most h = false_true h

pub solution_solves : (is_bound : ℕ → Bool) (c : Conjunct) (s : Solution) → solution is_bound c ≡ some s → Solves is_bound c s
unfolding solution
solution_solves is_bound c s e = by (either (is_equation c.relation))
  where
    sided : c.relation ≡ equal → (l r : Option ℕ) → solved_by is_bound c.left c.right ≡ l → solved_by is_bound c.right c.left ≡ r → either_side l r c.left c.right ≡ some s → Solves is_bound c s
    sided q none none x y h = none-some h
    sided q (some n) r x y h =
        let u : record { unknown = n; known = c.right } ≡ s = cc in
        let w = solved_side is_bound c.left c.right n x in
        rw (← u) (record { equation = q; unbound = w.1.0; computed = w.1.1; sides = inl (w.0, refl) })
    sided q none (some n) x y h =
        let u : record { unknown = n; known = c.left } ≡ s = cc in
        let w = solved_side is_bound c.right c.left n y in
        rw (← u) (record { equation = q; unbound = w.1.0; computed = w.1.1; sides = inr (w.0, refl) })

    by : (is_equation c.relation ≡ true) ⊎ (is_equation c.relation ≡ false) → Solves is_bound c s
    by (inl q) = sided (is_equation_lem c.relation q) (solved_by is_bound c.left c.right) (solved_by is_bound c.right c.left) refl refl (sym (cond_true (is_equation c.relation) (either_side (solved_by is_bound c.left c.right) (solved_by is_bound c.right c.left) c.left c.right) none q) ∙ e)
    by (inr q) = none-some (sym (cond_false (is_equation c.relation) (either_side (solved_by is_bound c.left c.right) (solved_by is_bound c.right c.left) c.left c.right) none q) ∙ e)

pub record FitSolve (t : Transition) (is_bound : ℕ → Bool) (k : ℕ) (ns : List ℕ) : Type 0 where
  pub conjunct : Conjunct
  pub named : get_elem? t.guard k ≡ some conjunct
  pub answer : Solution
  pub found : solution is_bound conjunct ≡ some answer
  pub binds : answer.unknown ∷ [] ≡ ns

pub fit-solve : (t : Transition) (is_bound : ℕ → Bool) (k n : ℕ) (ns : List ℕ) → newly_bound t is_bound (solve k) ≡ n ∷ ns → FitSolve t is_bound k (n ∷ ns)
unfolding newly_bound
fit-solve t is_bound k n ns e = by (get_elem? t.guard k) refl e
  where
    found : (c : Conjunct) → get_elem? t.guard k ≡ some c → (o : Option Solution) → solution is_bound c ≡ o → solution_binds o ≡ n ∷ ns → FitSolve t is_bound k (n ∷ ns)
    found c q none r h = nil_cons h
    found c q (some s) r h = record { conjunct = c; named = q; answer = s; found = r; binds = h }

    by : (o : Option Conjunct) → get_elem? t.guard k ≡ o → solve_binds is_bound o ≡ n ∷ ns → FitSolve t is_bound k (n ∷ ns)
    by none q h = nil_cons h
    by (some c) q h = found c q (solution is_bound c) refl h

-- ── Range ──

pub record FitRange (t : Transition) (is_bound : ℕ → Bool) (k : ℕ) (ns : List ℕ) : Type 0 where
  pub there : k < length t.variables
  pub unbound : is_bound k ≡ false
  pub binds : k ∷ [] ≡ ns

pub fit-range : (t : Transition) (is_bound : ℕ → Bool) (k n : ℕ) (ns : List ℕ) → newly_bound t is_bound (range k) ≡ n ∷ ns → FitRange t is_bound k (n ∷ ns)
unfolding newly_bound
fit-range t is_bound k n ns e = by (either (ltb k (length t.variables) && not (is_bound k)))
  where
    by : ((ltb k (length t.variables) && not (is_bound k)) ≡ true) ⊎ ((ltb k (length t.variables) && not (is_bound k)) ≡ false) → FitRange t is_bound k (n ∷ ns)
    by (inl q) =
        record {
          there = ltb-true k (length t.variables) (and_left (ltb k (length t.variables)) (not (is_bound k)) q);
          unbound = not-true (is_bound k) (and_right (ltb k (length t.variables)) (not (is_bound k)) q);
          binds = sym (cond_true (ltb k (length t.variables) && not (is_bound k)) (k ∷ []) [] q) ∙ e;
        }
    by (inr q) = nil_cons (sym (cond_false (ltb k (length t.variables) && not (is_bound k)) (k ∷ []) [] q) ∙ e)

-- ── A plan without fault ──

pub record Fit (t : Transition) (bs : List ℕ) (e : Element) (es : List Element) : Type 0 where
  pub first : ℕ
  pub others : List ℕ
  pub binds : newly_bound t (member bs) e.sort ≡ first ∷ others
  pub rest : plan_fault t ((first ∷ others) ++ bs) es ≡ none

-- the first element is fit, and the rest has no fault with what it binds
pub plan-fit : (t : Transition) (bs : List ℕ) (e : Element) (es : List Element) → plan_fault t bs (e ∷ es) ≡ none → Fit t bs e es
unfolding plan_fault
plan-fit t bs e es h = by (newly_bound t (member bs) e.sort) refl h
  where
    by : (ns : List ℕ) → newly_bound t (member bs) e.sort ≡ ns → fit_or ns e.position (λ ms. plan_fault t (ms ++ bs) es) ≡ none → Fit t bs e es
    by [] q g = none-some (sym g)
    by (n ∷ ns) q g = record { first = n; others = ns; binds = q; rest = g }

-- at the end every variable is bound
pub plan-full : (t : Transition) (bs : List ℕ) → plan_fault t bs [] ≡ none → every_below (length t.variables) (member bs) ≡ true
unfolding plan_fault
plan-full t bs h = by (either (every_below (length t.variables) (member bs)))
  where
    by : (every_below (length t.variables) (member bs) ≡ true) ⊎ (every_below (length t.variables) (member bs) ≡ false) → every_below (length t.variables) (member bs) ≡ true
    by (inl q) = q
    by (inr q) = none-some (sym h ∙ cond_false (every_below (length t.variables) (member bs)) none (some t.position) q)
