-- The measure is three times the number of words from the position on, one more before its word is looked at and two more behind an operator, where the
-- first operand begins at the same position.
use Prim.Native.Nat.{◌+◌, ◌*◌, ◌-◌}
use lib.ListN.{length}
use Rattle.evaluation.proofs.evaluate.+evaluation.Given as goal

abbrev pub decreases-evaluate_at : goal.decreases-evaluate_at
decreases-evaluate_at l = 3 * (length l.words.now - l.at) + 1

abbrev pub decreases-evaluate_load : goal.decreases-evaluate_load
decreases-evaluate_load l = 3 * (length l.words.now - l.at) + 2

abbrev pub decreases-evaluate_operator : goal.decreases-evaluate_operator
decreases-evaluate_operator l = 3 * (length l.words.now - l.at)

abbrev pub decreases-evaluate_two : goal.decreases-evaluate_two
decreases-evaluate_two l = 3 * (length l.words.now - l.at) + 2
