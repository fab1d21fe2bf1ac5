-- `matches::known::known_parts` meets its contract: the words so far are known, those ahead are 0 as they were lent and say nothing.
use mathlib.Core.Path.{◌∙◌}
use native.Mathlib.Omega.{arith}
use lib.ListN.{length-set}
use Rattle.matches.proofs.Knowing.{knows_more}
use Rattle.matches.proofs.known.known_parts.Goals as goal

pub loop-i-preserved : goal.loop-i-preserved
loop-i-preserved c =
    let l = c.loop-i in
    let f = l.invariant.0 in
    (length-set l.known l.i c.known_part.result ∙ f, knows_more l.i (omega arith) l.invariant.1 c.known_part.ensures)
