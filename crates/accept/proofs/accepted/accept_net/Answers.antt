-- `accept::accepted::accept_net` meets its contract: a net that ends with the words stands alone.
use Rattle.std.proofs.lemmas.Result.{err_from_is_err_and}
use Rattle.accept.proofs.Checking.{whole-index, no-index}
use Rattle.accept.proofs.accepted.accept_net.Goals as goal

pub returns-in_err-net : goal.returns-in_err-net
returns-in_err-net c =
    let p = err_from_is_err_and c.from_residual.result c.from_residual.ensures.1 in
    rw (p.1, p.2) (no-index _ c.accept_into.ensures c.in_err-net.was)

pub returns : goal.returns
returns c = whole-index _ c.accept_into.ensures c.in_ok-net.was
