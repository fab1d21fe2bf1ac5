-- Refusal 5 on the words of a net that was read: what an element binds, told from the positions of a transition's parts,
-- and where a plan is at fault.
-- proofs/Fitness.antt shows that it is what semantics says of the transition there. Rests on elements/specs/Binds and net/specs/Skim.
use Rattle.std.specs.Prelude.{ℕ, Bool, false, cond, ◌||◌, List, [], ◌∷◌}
use Rattle.std.proofs.Math.Option.{Option, none, some}
use Rattle.std.proofs.Math.ListN.{get_elem?}
use Rattle.semantics.specs.Reading.{Reading, read, refused}
use Rattle.semantics.specs.Net.{Sort, match, solve, range, Element}
use Rattle.semantics.specs.ReadNet.{read_element}
use Rattle.semantics.specs.Plan.{member, every_below, fit_or, first_of as first_fault}
use Rattle.net.specs.Skim.{Outline, skim_transition}
use Rattle.elements.specs.Binds.{unbound_of, match_at, solve_at}

-- what the elements of a plan name: variables, input arcs and conjuncts
abbrev pub plan_parts : ℕ → List ℕ → List ℕ → Outline
plan_parts v inputs guard = record { variables = v; inputs = inputs; outputs = []; guard = guard; plan = [] }

abbrev pub at_member : Option ℕ → (ℕ → List ℕ) → List ℕ
at_member none k = []
at_member (some at) k = k at

-- the variables that an element binds
unfoldable pub binds_at : List ℕ → List ℕ → Outline → (ℕ → Bool) → Sort → List ℕ
binds_at ws widths o is_bound (match k) = at_member (get_elem? o.inputs k) (match_at ws widths o.variables is_bound)
binds_at ws widths o is_bound (solve k) = at_member (get_elem? o.guard k) (solve_at ws o.variables is_bound)
binds_at ws widths o is_bound (range n) = unbound_of o.variables is_bound n

abbrev pub element_or : Reading Element → ℕ → (Sort → Option ℕ) → Option ℕ
element_or (read e next) p k = k e.sort
element_or (refused n q) p k = some p

-- where a plan with these elements is at fault, `is_bound` telling the variables bound so far
unfoldable pub fault_from : List ℕ → List ℕ → Outline → ℕ → (ℕ → Bool) → List ℕ → Option ℕ
fault_from ws widths o at is_bound [] = cond (every_below o.variables is_bound) none (some at)
fault_from ws widths o at is_bound (p ∷ ps) = element_or (read_element ws p) p (λ s. fit_or (binds_at ws widths o is_bound s) p (λ ns. fault_from ws widths o at (λ k. member ns k || is_bound k) ps))

-- where the plan of the transition at a position is at fault
abbrev pub fault_in : List ℕ → List ℕ → ℕ → Reading Outline → Option ℕ
fault_in ws widths at (read o next) = fault_from ws widths o at (λ k. false) o.plan
fault_in ws widths at (refused n p) = none

abbrev pub transition_fault : List ℕ → List ℕ → ℕ → Option ℕ
transition_fault ws widths at = fault_in ws widths at (skim_transition ws widths at)

-- the first fault of the transitions at these positions
unfoldable pub fault_among : List ℕ → List ℕ → List ℕ → Option ℕ
fault_among ws widths [] = none
fault_among ws widths (at ∷ ats) = first_fault (transition_fault ws widths at) (fault_among ws widths ats)
