-- `net::skim::skip_ranges` meets its contract: the loop of `Loops` over the reader of a RANGE word.
use Rattle.net.specs.Skim.{skim_range}
use Rattle.net.proofs.Loops.{Ahead}
use Rattle.net.proofs.skim.skip_ranges.Given as goal

abbrev pub invariant-loop : goal.invariant-loop
invariant-loop l = Ahead (skim_range l.words) l.n l.at l.counter l.next
