-- `arrivals::step::try_at` meets its contract: each return is a rule of `Attempting`.
use mathlib.Core.Path.{refl}
use native.Mathlib.Omega.{arith}
use borrow.Author.Rules.{rules}
use Rattle.tries.proofs.Slots.{tried_not, tried_same}
use Rattle.arrivals.proofs.Attempting.{try_match, try_differs, try_solve, try_range, entry_inside, value-inside, conjunct_ready}
use Rattle.arrivals.proofs.step.try_at.Goals as goal

pub overflow_add-at : goal.overflow_add-at
overflow_add-at c = let h = entry_inside _ _ c.args.marking.now c.args.i c.requires.safe c.in-Match.is c.requires.i_lt_count in let w = h.0 in search rules

pub overflow_mul-at : goal.overflow_mul-at
overflow_mul-at c = let h = entry_inside _ _ c.args.marking.now c.args.i c.requires.safe c.in-Match.is c.requires.i_lt_count in let w = h.1 in search rules

pub overflow_add-at-in-Match : goal.overflow_add-at-in-Match
overflow_add-at-in-Match c = let h = entry_inside _ _ c.args.marking.now c.args.i c.requires.safe c.in-Match.is c.requires.i_lt_count in let w = h.1 in search rules

pub overflow_add-at-in-Match-2 : goal.overflow_add-at-in-Match-2
overflow_add-at-in-Match-2 c = let h = entry_inside _ _ c.args.marking.now c.args.i c.requires.safe c.in-Match.is c.requires.i_lt_count in let w = h.1 in search rules

pub differs-requires : goal.differs-requires
differs-requires c = let h = entry_inside _ _ c.args.marking.now c.args.i c.requires.safe c.in-Match.is c.requires.i_lt_count in let w = h.1 in (h.0, omega arith)

pub match_colour-requires : goal.match_colour-requires
match_colour-requires c = let h = entry_inside _ _ c.args.marking.now c.args.i c.requires.safe c.in-Match.is c.requires.i_lt_count in let w = h.1 in record { slots_len = c.requires.slots_len; width_bound = (h.0, omega arith); parts_len = c.requires.noted.full; saved = c.requires.saved }

pub solve_at-requires : goal.solve_at-requires
solve_at-requires c = record { slots_len = c.requires.slots_len; has_conjunct = conjunct_ready _ c.args.s c.args.net.now c.args.i c.requires.ready c.in-Solve.is c.requires.i_lt_count }

pub take_value-requires : goal.take_value-requires
take_value-requires c = record { slots_len = c.requires.slots_len; n_lt_variables = value-inside _ _ c.args.marking.now c.args.i c.requires.safe c.in-Range.is c.requires.i_lt_count }

pub returns-then-differs : goal.returns-then-differs
returns-then-differs c = tried_not (try_differs _ _ _ _ _ _ _ c.args.i c.requires.i_lt_count c.in-Match.is c.requires.noted.knows c.if-differs.true c.differs.ensures)

pub returns-else-differs : goal.returns-else-differs
returns-else-differs c = tried_same c.match_colour.ensures (try_match _ _ _ _ _ _ _ c.args.i c.requires.i_lt_count c.in-Match.is refl)

pub returns-in-Solve : goal.returns-in-Solve
returns-in-Solve c = tried_same c.solve_at.ensures (try_solve _ _ _ _ _ _ _ c.args.i c.requires.i_lt_count c.in-Solve.is refl)

pub returns-in-Range : goal.returns-in-Range
returns-in-Range c = tried_same c.take_value.ensures (try_range _ _ _ _ _ _ _ c.args.i c.requires.i_lt_count c.in-Range.is refl)
