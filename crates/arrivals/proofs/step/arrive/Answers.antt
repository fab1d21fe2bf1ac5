-- `arrivals::step::arrive` meets its contract: each return is a rule of `Arriving`.
use borrow.Author.Rules.{rules}
use Rattle.arrivals.proofs.Aiming.{without}
use Rattle.arrivals.proofs.Arriving.{match_past, match-there, solve_past, solve-there, range_past, range-there}
use Rattle.arrivals.proofs.step.arrive.Goals as goal

pub arrive_match-requires : goal.arrive_match-requires
arrive_match-requires c = record { places_fit = c.requires.places_fit; begins_len = c.requires.begins_len; variables_in_bounds = c.requires.variables_in_bounds.0; target = c.requires.aims.target _ c.in-Match.is c.if-inputs-k.false; blank = c.requires.blank }

pub returns-then-inputs-k : goal.returns-then-inputs-k
returns-then-inputs-k c = match_past _ _ _ _ _ _ _ _ _ _ _ _ (without c.no_tries.ensures) c.requires.blank c.in-Match.is c.if-inputs-k.true

pub returns-then-conjuncts-j : goal.returns-then-conjuncts-j
returns-then-conjuncts-j c = solve_past _ _ _ _ _ _ _ _ _ _ _ _ (without c.no_tries-then-conjuncts-j.ensures) c.requires.blank c.in-Solve.is c.if-conjuncts-j.true

pub returns-then-variables-n : goal.returns-then-variables-n
returns-then-variables-n c = range_past _ _ _ _ _ _ _ _ _ _ _ _ (without c.no_tries-then-variables-n.ensures) c.requires.blank c.in-Range.is c.if-variables-n.true

pub returns-else-inputs-k : goal.returns-else-inputs-k
returns-else-inputs-k c = match-there _ _ _ _ _ _ _ _ _ _ _ c.in-Match.is c.if-inputs-k.false c.arrive_match.ensures

pub returns-else-conjuncts-j : goal.returns-else-conjuncts-j
returns-else-conjuncts-j c = solve-there _ _ _ _ _ _ _ _ _ _ _ c.requires.blank c.in-Solve.is c.if-conjuncts-j.false

pub overflow_add-position : goal.overflow_add-position
overflow_add-position c = let l = c.requires.variables_in_bounds.1 in search rules

pub overflow_add-position-in-Range : goal.overflow_add-position-in-Range
overflow_add-position-in-Range c = let l = c.requires.variables_in_bounds.1 in let k = c.if-variables-n.false in search rules

pub returns-else-variables-n : goal.returns-else-variables-n
returns-else-variables-n c = range-there _ _ _ _ _ _ _ _ _ _ _ c.requires.blank c.in-Range.is c.if-variables-n.false c.count_values.ensures
