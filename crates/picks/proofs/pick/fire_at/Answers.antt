-- `picks::pick::fire_at` meets its contract: each return is a rule of `Firing`.
use mathlib.Core.Path.{sym}
use native.Mathlib.Omega.{arith}
use lib.Seq.{length-take-le}
use Rattle.std.proofs.lemmas.Result.{err_from_is_err_and}
use Rattle.firing.proofs.Firing.{enabled_at}
use Rattle.picks.proofs.Firing.{fired-refused, copy_fits, fired-written}
use Rattle.picks.proofs.pick.fire_at.Goals as goal

pub slice_bounds-fire_enabled-end : goal.slice_bounds-fire_enabled-end
slice_bounds-fire_enabled-end c = c.requires.inside

pub slice_bounds-fire_enabled-end-2 : goal.slice_bounds-fire_enabled-end-2
slice_bounds-fire_enabled-end-2 c = sym (length-take-le _ _ c.requires.inside)

pub slice_bounds-fire_enabled-end-4 : goal.slice_bounds-fire_enabled-end-4
slice_bounds-fire_enabled-end-4 c = let e = c.at_most-room.ensures in sym (length-take-le _ _ (omega arith))

pub fire_enabled-requires : goal.fire_enabled-requires
fire_enabled-requires c =
    let pre = c.requires in
    record { places_fit = pre.fits; begins_len = pre.beginnings; inputs_len_bound = (pre.few-inputs, pre.few-outputs); enabled_at = record { conjuncts = pre.conjuncts; fireable = pre.fireable; enabled = enabled_at pre.fireable pre.enabled } }

pub returns-in_err-next : goal.returns-in_err-next
returns-in_err-next c =
    let s = c.args in
    let p = err_from_is_err_and c.from_residual.result c.from_residual.ensures.1 in
    rw (p.1, p.2) (fired-refused s.buffer.now s.length s.spare.now c.at_most-room.ensures c.in_err-next.ensures)

pub copy_words-requires : goal.copy_words-requires
copy_words-requires c = let s = c.args in copy_fits s.buffer.now s.length s.spare.now c.at_most-room.ensures c.in_ok-next.ensures c.requires c.fire_enabled.auto.next _

pub returns : goal.returns
returns c = let s = c.args in fired-written s.buffer.now s.length s.spare.now c.at_most-room.ensures c.in_ok-next.ensures c.requires c.fire_enabled.auto.next _ c.copy_words.ensures
