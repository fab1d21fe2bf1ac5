-- The functions that evaluate one another meet their contracts: each arm is a rule of `Evaluating`.
use Rattle.evaluation.proofs.Evaluating.{evaluating, calling, operating}
use Rattle.evaluation.proofs.evaluate.+evaluation.Goals as goal

pub evaluate_at-offset_bounds-words-at : goal.evaluate_at-offset_bounds-words-at
evaluate_at-offset_bounds-words-at t c = search evaluating

pub evaluate_at-bounds-words-at : goal.evaluate_at-bounds-words-at
evaluate_at-bounds-words-at t c = search evaluating

pub evaluate_at-bounds-binding-payload : goal.evaluate_at-bounds-binding-payload
evaluate_at-bounds-binding-payload t c = search evaluating

pub evaluate_at-evaluate_operator-requires : goal.evaluate_at-evaluate_operator-requires
evaluate_at-evaluate_operator-requires t c = search evaluating

pub evaluate_at-evaluate_operator-requires-in_default : goal.evaluate_at-evaluate_operator-requires-in_default
evaluate_at-evaluate_operator-requires-in_default t c = search evaluating

pub evaluate_at-returns-in-7 : goal.evaluate_at-returns-in-7
evaluate_at-returns-in-7 t c = search evaluating

pub evaluate_at-returns-in-8 : goal.evaluate_at-returns-in-8
evaluate_at-returns-in-8 t c = search evaluating

pub evaluate_operator-offset_bounds-words-at : goal.evaluate_operator-offset_bounds-words-at
evaluate_operator-offset_bounds-words-at t c = search calling

pub evaluate_operator-bounds-words-at : goal.evaluate_operator-bounds-words-at
evaluate_operator-bounds-words-at t c = search calling

pub evaluate_operator-evaluate_load-requires : goal.evaluate_operator-evaluate_load-requires
evaluate_operator-evaluate_load-requires t c = search calling

pub evaluate_operator-overflow_add-at-in-0-to-3 : goal.evaluate_operator-overflow_add-at-in-0-to-3
evaluate_operator-overflow_add-at-in-0-to-3 t c = search calling

pub evaluate_operator-evaluate_two-requires : goal.evaluate_operator-evaluate_two-requires
evaluate_operator-evaluate_two-requires t c = search calling

pub evaluate_operator-returns-in-4 : goal.evaluate_operator-returns-in-4
evaluate_operator-returns-in-4 t c = search calling

pub evaluate_operator-returns-in-0-to-3 : goal.evaluate_operator-returns-in-0-to-3
evaluate_operator-returns-in-0-to-3 t c = search calling

pub evaluate_operator-returns-in_default : goal.evaluate_operator-returns-in_default
evaluate_operator-returns-in_default t c = search calling

pub evaluate_load-evaluate_at-a-requires : goal.evaluate_load-evaluate_at-a-requires
evaluate_load-evaluate_at-a-requires t c = search operating

pub evaluate_load-returns : goal.evaluate_load-returns
evaluate_load-returns t c = search operating

pub evaluate_two-evaluate_at-a-requires : goal.evaluate_two-evaluate_at-a-requires
evaluate_two-evaluate_at-a-requires t c = search operating

pub evaluate_two-evaluate_at-b-requires : goal.evaluate_two-evaluate_at-b-requires
evaluate_two-evaluate_at-b-requires t c = search operating

pub evaluate_two-returns : goal.evaluate_two-returns
evaluate_two-returns t c = search operating
