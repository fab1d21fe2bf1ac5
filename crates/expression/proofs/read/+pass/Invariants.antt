-- The measure is the number of words left.
use Rattle.expression.proofs.read.+pass.Given as goal

abbrev pub decreases-pass : goal.decreases-pass
decreases-pass l = l.left
