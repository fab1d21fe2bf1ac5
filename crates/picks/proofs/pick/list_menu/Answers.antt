-- `picks::pick::list_menu` meets its contract: what is cut out of the positions are the parts of the transition, and of the nine numbers those that count.
use mathlib.Core.Path.{sym}
use native.Mathlib.Omega.{arith}
use lib.Seq.{length-take-le}
use Rattle.picks.proofs.Firing.{parts-listed, arcs-tested}
use Rattle.picks.proofs.pick.list_menu.Goals as goal

pub slice_bounds-list_bindings-end-2 : goal.slice_bounds-list_bindings-end-2
slice_bounds-list_bindings-end-2 c = let few = c.requires.few.inputs in let l = c.requires.long in sym (length-take-le _ _ (omega arith))

pub slice_bounds-list_bindings-end-3 : goal.slice_bounds-list_bindings-end-3
slice_bounds-list_bindings-end-3 c = let T = c.requires.tested in let f = T.few in let l = T.long in sym (length-take-le _ _ (omega arith))

pub list_bindings-requires : goal.list_bindings-requires
list_bindings-requires c = let L = c.requires in record { world = parts-listed L; unspared = arcs-tested L }
