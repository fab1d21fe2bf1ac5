-- `spares::spare::lone_words` meets its contract: each turn passes a word that is not that of an operator.
use Rattle.spares.specs.Spare.{AreLone}
use Rattle.spares.proofs.spare.lone_words.Given as goal

abbrev pub invariant-loop-i : goal.invariant-loop-i
invariant-loop-i l = AreLone l.net l.at l.i
