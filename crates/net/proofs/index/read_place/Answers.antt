-- `net::index::read_place` meets its contract: its word and its ranges, by the rules of `Nets`.
use Rattle.net.proofs.Nets.{netting, place-ends}
use Rattle.net.proofs.index.read_place.Goals as goal

pub returns-in_err-width : goal.returns-in_err-width
returns-in_err-width c = search netting

pub returns-in_err-end : goal.returns-in_err-end
returns-in_err-end c = search netting

pub returns : goal.returns
returns c = place-ends _ _ c.take.ensures c.in_ok-width.was c.skip_ranges.ensures c.in_ok-end.was
