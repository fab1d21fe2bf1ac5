-- `picks::pick::fire_row` meets its contract: the parts of the table are those of the transition, and the part of the menu that is fired is the row.
use mathlib.Core.Path.{sym}
use native.Mathlib.Omega.{arith}
use lib.Seq.{length-take-le}
use Rattle.picks.proofs.Firing.{row-fires, row-fired}
use Rattle.picks.proofs.pick.fire_row.Goals as goal

pub slice_bounds-fire_at-end : goal.slice_bounds-fire_at-end
slice_bounds-fire_at-end c = let few = c.requires.few.inputs in let l = c.requires.long in sym (length-take-le _ _ (omega arith))

pub fire_at-requires : goal.fire_at-requires
fire_at-requires c = row-fires c.requires

pub returns : goal.returns
returns c = row-fired c.requires c.fire_at.ensures
