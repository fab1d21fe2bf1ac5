-- `beginnings::begins::index_marking` meets its contract: the turns of `Known`, place by place.
use mathlib.Core.Path.{◌≡◌}
use lib.ListN.{length}
use native.Mathlib.Omega.{arith}
use Rattle.net.proofs.Placed.{fits_at_lem, place_inside}
use Rattle.beginnings.proofs.Known.{ready_start, ready_turn, ready_end}
use Rattle.beginnings.proofs.begins.index_marking.Goals as goal

pub loop-p-init : goal.loop-p-init
loop-p-init c = ready_start _ _ _ c.requires.begins_len

pub bounds-begins-p : goal.bounds-begins-p
bounds-begins-p c = omega (arith, c.requires.places_fit.few, c.loop-p.invariant.long)

pub offset_bounds-net-places : goal.offset_bounds-net-places
offset_bounds-net-places c = omega (arith, place_inside c.requires.places_fit c.loop-p-test.true)

pub bounds-net-places : goal.bounds-net-places
bounds-net-places c = place_inside c.requires.places_fit c.loop-p-test.true

pub overflow_add-payload : goal.overflow_add-payload
overflow_add-payload c = let n = (fits_at_lem c.requires.places_fit _ c.loop-p-test.true).narrow in let e = c.payload.ensures in omega arith

pub pass_place-at-requires : goal.pass_place-at-requires
pass_place-at-requires c = let n = (fits_at_lem c.requires.places_fit _ c.loop-p-test.true).narrow in let e = c.payload.ensures in (omega arith, omega arith)

pub loop-p-preserved : goal.loop-p-preserved
loop-p-preserved c = ready_turn c.requires.places_fit c.requires.accepted c.loop-p.invariant c.loop-p-test.true c.payload.ensures.0 c.pass_place-at.ensures

pub returns : goal.returns
returns c =
    let e : c.loop-p.p ≡ length c.args.places.now = omega arith in
    ready_end c.requires.places_fit c.requires.accepted (rw e at c.loop-p.invariant) c.begin_all.auto.begins c.begin_all.ensures
