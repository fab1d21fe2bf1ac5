-- `menus::menu::list_once` meets its contract: the positions that are left are at most eight, and they are those that are not spared.
use mathlib.Core.Path.{refl, sym}
use native.Mathlib.Omega.{arith}
use lib.Seq.{length-take-le}
use Rattle.search.proofs.Worlds.{few-inputs}
use Rattle.plan_search.proofs.Sparing.{all_within}
use Rattle.menus.proofs.menu.list_once.Goals as goal

pub leave_out-n-requires : goal.leave_out-n-requires
leave_out-n-requires c = let W = c.requires in record { places_fit = W.fits; within = all_within W; inputs_len_bound = (few-inputs W, refl) }

pub slice_bounds-tested-end : goal.slice_bounds-tested-end
slice_bounds-tested-end c = let f = few-inputs c.requires in let n = c.leave_out-n.ensures.few in let k = c.leave_out-n.ensures.full in omega arith

pub slice_bounds-list_bindings-end : goal.slice_bounds-list_bindings-end
slice_bounds-list_bindings-end c = let o = c.leave_out-n in sym (length-take-le o.result o.new.rest (let f = few-inputs c.requires in let n = o.ensures.few in let k = o.ensures.full in omega arith))

pub list_bindings-requires : goal.list_bindings-requires
list_bindings-requires c = record { world = c.requires; unspared = c.leave_out-n.ensures.unspared }
