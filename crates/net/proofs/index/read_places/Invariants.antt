-- `net::index::read_places` meets its contract: the loop of `Nets` over places.
use Rattle.net.proofs.Nets.{Placed}
use Rattle.net.proofs.index.read_places.Given as goal

abbrev pub invariant-loop-i : goal.invariant-loop-i
invariant-loop-i l = Placed l.words l.n l.at l.i l.next l.begins l.widths
