-- `tries::partial::restore` meets its contract: the first slots so far are the words that were kept.
use mathlib.Core.Path.{◌≡◌}
use lib.ListN.{take}
use Rattle.tries.proofs.partial.restore.Given as goal

abbrev pub invariant-loop-i : goal.invariant-loop-i
invariant-loop-i l = take l.i l.slots ≡ take l.i l.saved
