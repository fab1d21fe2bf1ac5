-- 01, "Plans and tries": what an element binds, and refusal 5.
-- Rests on Expression, Reading, Net and ReadNet.
use Rattle.std.specs.Prelude.{ℕ, zero, suc, Bool, true, false, cond, not, ◌&&◌, ◌||◌, List, [], ◌∷◌, ◌++◌, leb, ltb, eqb, length, pos, negsuc}
use Rattle.std.proofs.Math.Option.{Option, none, some}
use Rattle.std.proofs.Math.ListN.{get_elem?}
use Rattle.semantics.specs.Refusal.{words_left, unfit_plan}
use Rattle.semantics.specs.Expression.{Expression, constant, variable, binary, load, every_variable}
use Rattle.semantics.specs.Reading.{Reading, read, refused, then}
use Rattle.semantics.specs.Net.{Arc, Relation, equal, unequal, less, at_most, Conjunct, Sort, match, solve, range, Element, Transition, Net}
use Rattle.semantics.specs.ReadNet.{read_net}

-- "the unbound variables that stand alone as components", where `is_bound` tells those bound before
unfoldable pub lone_unbound : (ℕ → Bool) → List Expression → List ℕ
lone_unbound is_bound [] = []
lone_unbound is_bound (constant z ∷ es) = lone_unbound is_bound es
lone_unbound is_bound (variable n ∷ es) = cond (is_bound n) [] (n ∷ []) ++ lone_unbound is_bound es
lone_unbound is_bound (binary o a b ∷ es) = lone_unbound is_bound es
lone_unbound is_bound (load a ∷ es) = lone_unbound is_bound es

-- "an input arc whose coefficient is one CONSTANT ≥ 1"
abbrev pub positive_constant : Expression → Bool
positive_constant (constant (pos n)) = leb 1 n
positive_constant (constant (negsuc n)) = false
positive_constant (variable n) = false
positive_constant (binary o a b) = false
positive_constant (load a) = false

-- "an unbound variable alone on one side .. and only bound variables on the other": the variable
abbrev pub solved_by : (ℕ → Bool) → Expression → Expression → Option ℕ
solved_by is_bound (variable n) other = cond (not (is_bound n) && every_variable is_bound other) (some n) none
solved_by is_bound (constant z) other = none
solved_by is_bound (binary o a b) other = none
solved_by is_bound (load a) other = none

-- the variable that a conjunct is solved for and the expression that gives its value
pub record Solution : Type 0 where
  pub unknown : ℕ
  pub known : Expression

-- "(left looked at first)"
abbrev pub either_side : Option ℕ → Option ℕ → Expression → Expression → Option Solution
either_side (some n) r a b = some (record { unknown = n; known = b })
either_side none (some n) a b = some (record { unknown = n; known = a })
either_side none none a b = none

abbrev pub is_equation : Relation → Bool
is_equation equal = true
is_equation unequal = false
is_equation less = false
is_equation at_most = false

-- "Solve names an = conjunct"
unfoldable pub solution : (ℕ → Bool) → Conjunct → Option Solution
solution is_bound c =
    cond (is_equation c.relation) (either_side (solved_by is_bound c.left c.right) (solved_by is_bound c.right c.left) c.left c.right) none

abbrev pub match_binds : (ℕ → Bool) → Option Arc → List ℕ
match_binds is_bound (some a) = cond (positive_constant a.coefficient) (lone_unbound is_bound a.components) []
match_binds is_bound none = []

abbrev pub solution_binds : Option Solution → List ℕ
solution_binds (some s) = s.unknown ∷ []
solution_binds none = []

abbrev pub solve_binds : (ℕ → Bool) → Option Conjunct → List ℕ
solve_binds is_bound (some c) = solution_binds (solution is_bound c)
solve_binds is_bound none = []

-- the variables that an element binds; none where it is unfit, for it "must bind at least one variable not yet bound"
unfoldable pub newly_bound : Transition → (ℕ → Bool) → Sort → List ℕ
newly_bound t is_bound (match k) = match_binds is_bound (get_elem? t.inputs k)
newly_bound t is_bound (solve k) = solve_binds is_bound (get_elem? t.guard k)
newly_bound t is_bound (range n) = cond (ltb n (length t.variables) && not (is_bound n)) (n ∷ []) []

unfoldable pub member : List ℕ → ℕ → Bool
member [] n = false
member (m ∷ ms) n = eqb m n || member ms n

-- every number below n passes a test
unfoldable pub every_below : ℕ → (ℕ → Bool) → Bool
every_below zero p = true
every_below (suc n) p = p n && every_below n p

abbrev pub fit_or : List ℕ → ℕ → (List ℕ → Option ℕ) → Option ℕ
fit_or [] position k = some position
fit_or (n ∷ ns) position k = k (n ∷ ns)

-- Where a plan is at fault, the variables `bs` being bound: "element unfit; then variable unbound at the end (position of the TRANSITION)".
unfoldable pub plan_fault : Transition → List ℕ → List Element → Option ℕ
plan_fault t bs [] = cond (every_below (length t.variables) (member bs)) none (some t.position)
plan_fault t bs (e ∷ es) = fit_or (newly_bound t (member bs) e.sort) e.position (λ ns. plan_fault t (ns ++ bs) es)

abbrev pub first_of : Option ℕ → Option ℕ → Option ℕ
first_of (some p) q = some p
first_of none q = q

-- "by transition"
unfoldable pub plans_fault : List Transition → Option ℕ
plans_fault [] = none
plans_fault (t ∷ ts) = first_of (plan_fault t [] t.plan) (plans_fault ts)

abbrev pub with_plans : Option ℕ → Net → ℕ → Reading Net
with_plans none net next = read net next
with_plans (some p) net next = refused unfit_plan p

-- 1 to 3, then 5: a net at the front of words
unfoldable pub accept_front : List ℕ → Reading Net
accept_front ws = then (read_net ws 0) (λ net next. with_plans (plans_fault net.transitions) net next)

-- 1 to 3, then 4, then 5: a net alone
unfoldable pub accept_net : List ℕ → Reading Net
accept_net ws = then (read_net ws 0) (λ net next. cond (ltb next (length ws)) (refused words_left next) (with_plans (plans_fault net.transitions) net next))
