-- 01, "Plans and tries": partial bindings, the tries of an element, and of a plan its leaves and its count of tries, W.
-- Rests on Plan, Order and Marking.
use Rattle.std.specs.Prelude.{ℕ, suc, ◌+◌, Bool, true, false, cond, List, [], ◌∷◌, ◌++◌, map, leb, ℤ, pos, length, get_or, set, replicate}
use Rattle.std.proofs.Math.Option
use Rattle.std.proofs.Math.Option.{Option, none, some, bind}
use Rattle.std.proofs.Math.ListN.{get_elem?}
use Rattle.semantics.specs.Lists.{select}
use Rattle.semantics.specs.Word.{Range, within}
use Rattle.semantics.specs.Expression.{Environment, Expression, constant, variable, binary, load, value}
use Rattle.semantics.specs.Net.{Arc, Conjunct, Sort, match, solve, range, Element, Transition, Net, ranges_at}
use Rattle.semantics.specs.Order.{same_integer, values_of_range, tuples}
use Rattle.semantics.specs.Plan.{Solution, solution}
use Rattle.semantics.specs.Marking.{Counts}

-- A partial binding has a value or none for each variable.
abbrev pub Partial : Type 0
Partial = List (Option ℤ)

-- "The empty binding"
abbrev pub empty : Transition → Partial
empty t = replicate (length t.variables) none

-- the binding that a full partial binding is
abbrev pub binding_of : Partial → List ℤ
binding_of p = map (λ o. Option.get_or o (pos 0)) p

abbrev pub partly : Partial → Environment
partly p n = get_or p n none

abbrev pub present : Option ℤ → Bool
present none = false
present (some z) = true

abbrev pub is_bound_in : Partial → ℕ → Bool
is_bound_in p n = present (partly p n)

-- "each distinct colour marked on the place"
unfoldable pub colours_on : Net → Counts → ℕ → List (List ℤ)
colours_on net m p = select (λ c. leb 1 (m p c)) (tuples (ranges_at net.places p))

-- a variable is bound to a new value, where the value is in its range
abbrev pub bind_new : Partial → ℕ → Option Range → ℤ → Option Partial
bind_new p n none z = none
bind_new p n (some r) z = cond (within r z) (some (set p n (some z))) none

-- a lone variable meets a component of a colour: an old value agrees, a new one is in range
abbrev pub agree : List Range → Partial → ℕ → Option ℤ → ℤ → Option Partial
agree ranges p n (some old) z = cond (same_integer old z) (some p) none
agree ranges p n none z = bind_new p n (get_elem? ranges n) z

-- "A match try goes on when lone variables and constants agree with the colour and new values are in range; components with operators wait"
unfoldable pub matched : List Range → List Expression → List ℤ → Partial → Option Partial
matched ranges [] zs p = some p
matched ranges (e ∷ es) [] p = none
matched ranges (constant k ∷ es) (z ∷ zs) p = bind (cond (same_integer k z) (some p) none) (matched ranges es zs)
matched ranges (variable n ∷ es) (z ∷ zs) p = bind (agree ranges p n (partly p n) z) (matched ranges es zs)
matched ranges (binary o a b ∷ es) (z ∷ zs) p = matched ranges es zs p
matched ranges (load a ∷ es) (z ∷ zs) p = matched ranges es zs p

abbrev pub match_tries : Net → Transition → Counts → Partial → Option Arc → List (Option Partial)
match_tries net t m p none = []
match_tries net t m p (some a) = map (λ c. matched t.variables a.components c p) (colours_on net m a.place)

-- "A solve try goes on when the value exists and is in range."
abbrev pub solved : List ℕ → Transition → Partial → Solution → Option Partial
solved table t p s = bind (value table (partly p) s.known) (λ z. bind_new p s.unknown (get_elem? t.variables s.unknown) z)

abbrev pub solve_tries : List ℕ → Transition → Partial → Option Conjunct → List (Option Partial)
solve_tries table t p none = []
solve_tries table t p (some c) = bind (solution (is_bound_in p) c) (solved table t p) ∷ []

abbrev pub range_tries : Partial → ℕ → Option Range → List (Option Partial)
range_tries p n none = []
range_tries p n (some r) = map (λ z. some (set p n (some z))) (values_of_range r)

-- The tries of an element at a partial binding: "match one for each distinct colour marked on the place, solve one, range one for each
-- value". A try that goes on has the next partial binding.
unfoldable pub tries : List ℕ → Net → Transition → Counts → Sort → Partial → List (Option Partial)
tries table net t m (match k) p = match_tries net t m p (get_elem? t.inputs k)
tries table net t m (solve k) p = solve_tries table t p (get_elem? t.guard k)
tries table net t m (range n) p = range_tries p n (get_elem? t.variables n)

-- the sum over tries, each counted once and followed where it goes on
unfoldable pub count_tries : (Partial → ℕ) → List (Option Partial) → ℕ
count_tries f [] = 0
count_tries f (none ∷ os) = suc (count_tries f os)
count_tries f (some p ∷ os) = suc (f p + count_tries f os)

-- what the tries that go on come to, one after the other
unfoldable pub gather : (Partial → List Partial) → List (Option Partial) → List Partial
gather f [] = []
gather f (none ∷ os) = gather f os
gather f (some p ∷ os) = f p ++ gather f os

-- "W is all tries": those of a plan from a partial binding on
unfoldable pub tries_from : List ℕ → Net → Transition → Counts → List Element → Partial → ℕ
tries_from table net t m [] p = 0
tries_from table net t m (e ∷ es) p = count_tries (tries_from table net t m es) (tries table net t m e.sort p)

-- the leaves: "each try that goes on arrives once at the next, equal partial bindings counted apart"
unfoldable pub leaves_from : List ℕ → Net → Transition → Counts → List Element → Partial → List Partial
leaves_from table net t m [] p = p ∷ []
leaves_from table net t m (e ∷ es) p = gather (leaves_from table net t m es) (tries table net t m e.sort p)

-- W and the leaves of a transition's plan
unfoldable pub all_tries : List ℕ → Net → Transition → Counts → ℕ
all_tries table net t m = tries_from table net t m t.plan (empty t)

unfoldable pub leaves : List ℕ → Net → Transition → Counts → List Partial
leaves table net t m = leaves_from table net t m t.plan (empty t)
