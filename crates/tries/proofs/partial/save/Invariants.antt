-- `tries::partial::save` meets its contract: the words kept so far are the first slots.
use mathlib.Core.Path.{◌≡◌}
use lib.ListN.{length, take}
use Rattle.tries.proofs.partial.save.Given as goal

abbrev pub invariant-loop-n : goal.invariant-loop-n
invariant-loop-n l = (length l.saved ≡ 8) × (take l.n l.saved ≡ take l.n l.slots)
