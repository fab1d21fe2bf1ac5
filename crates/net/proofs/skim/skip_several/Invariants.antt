-- `net::skim::skip_several` meets its contract: the loop of `Tables` that fills a part of a table, over the reader of one structure.
use Rattle.net.specs.Skim.{skim_one}
use Rattle.net.proofs.Tables.{Filled}
use Rattle.net.proofs.skim.skip_several.Given as goal

abbrev pub invariant-loop-i : goal.invariant-loop-i
invariant-loop-i l = Filled (skim_one l.words l.widths l.variables l.k) l.n l.at l.i l.next l.initial.table l.base l.table
