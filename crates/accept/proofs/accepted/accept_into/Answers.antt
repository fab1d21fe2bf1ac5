-- `accept::accepted::accept_into` meets its contract: the net's word, its places, and its transitions with their plans, by the rules of
-- net/proofs/Nets and `Checking`. The tables have 64 elements, and a net has no more places or transitions.
use mathlib.Core.Path.{◌≡◌, sym}
use native.Mathlib.Omega.{arith}
use Rattle.std.proofs.lemmas.Result.{err_from_is_err_and}
use lib.ListN.{length}
use lib.Seq.{length-take-le}
use Rattle.net.proofs.Nets.{net-refused, net-stops, few-places, few-transitions}
use Rattle.accept.proofs.Checking.{unread_extent, reviewed_refused, settled_refused, settled_net}
use Rattle.accept.proofs.accepted.accept_into.Goals as goal

pub returns-in_err-w : goal.returns-in_err-w
returns-in_err-w c =
    let p = err_from_is_err_and c.from_residual.result c.from_residual.ensures.1 in
    rw (p.1, p.2) (unread_extent _ _ (net-refused _ _ c.take.ensures c.in_err-w.was))

pub read_places-requires : goal.read_places-requires
read_places-requires c =
    let f = few-places _ _ c.take.ensures c.in_ok-w.was in
    record { n_in_bounds = omega arith; n_in_bounds_2 = omega arith }

pub returns-in_err-from : goal.returns-in_err-from
returns-in_err-from c =
    let p = err_from_is_err_and c.from_residual-in_err-from.result c.from_residual-in_err-from.ensures.1 in
    rw (p.1, p.2) (unread_extent _ _ (net-stops _ _ c.take.ensures c.in_ok-w.was _ c.read_places.ensures c.in_err-from.was))

pub slice_bounds-read_plans-end : goal.slice_bounds-read_plans-end
slice_bounds-read_plans-end c =
    let f = few-places _ _ c.take.ensures c.in_ok-w.was in
    let w : length c.read_places.new.widths ≡ 64 = omega arith in
    omega arith

pub slice_bounds-read_plans-end-2 : goal.slice_bounds-read_plans-end-2
slice_bounds-read_plans-end-2 c =
    let f = few-places _ _ c.take.ensures c.in_ok-w.was in
    let w : length c.read_places.new.widths ≡ 64 = omega arith in
    sym (length-take-le _ _ (omega arith))

pub read_plans-requires-clause-n_in_bounds : goal.read_plans-requires-clause-n_in_bounds
read_plans-requires-clause-n_in_bounds c =
    let f = few-transitions _ _ c.take.ensures c.in_ok-w.was in
    omega arith

pub returns-in_err-plans : goal.returns-in_err-plans
returns-in_err-plans c =
    let p = err_from_is_err_and c.from_residual-in_err-plans.result c.from_residual-in_err-plans.ensures.1 in
    rw (p.1, p.2) (reviewed_refused _ c.take.ensures c.in_ok-w.was _ _ c.read_places.ensures c.in_ok-from.was (omega arith) (omega arith) c.read_plans.ensures _ c.in_err-plans.was)

pub returns-in_err-end : goal.returns-in_err-end
returns-in_err-end c =
    let p = err_from_is_err_and c.from_residual-in_err-end.result c.from_residual-in_err-end.ensures.1 in
    rw (p.1, p.2) (settled_refused _ c.take.ensures c.in_ok-w.was _ _ c.read_places.ensures c.in_ok-from.was (omega arith) (omega arith) c.read_plans.ensures _ c.in_ok-plans.was c.settled.ensures c.in_err-end.was)

pub returns : goal.returns
returns c = settled_net _ c.take.ensures c.in_ok-w.was _ _ c.read_places.ensures c.in_ok-from.was (omega arith) (omega arith) c.read_plans.ensures _ c.in_ok-plans.was c.settled.ensures c.in_ok-end.was
