-- `matches::known::known_parts` meets its contract: the words so far are known, those ahead are 0 as they were lent and say nothing.
use mathlib.Core.Path.{◌≡◌}
use lib.ListN.{length}
use Rattle.matches.specs.Known.{Knows}
use Rattle.matches.proofs.known.known_parts.Given as goal

abbrev pub invariant-loop-i : goal.invariant-loop-i
invariant-loop-i l = (length l.known ≡ 4) × Knows l.variables l.b l.parts l.known
