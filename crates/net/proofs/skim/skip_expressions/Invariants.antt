-- `net::skim::skip_expressions` meets its contract: the loop of `Loops` over the reader of an expression.
use Rattle.net.specs.Skim.{skim_expression}
use Rattle.net.proofs.Loops.{Ahead}
use Rattle.net.proofs.skim.skip_expressions.Given as goal

abbrev pub invariant-loop : goal.invariant-loop
invariant-loop l = Ahead (skim_expression l.words l.variables) l.n l.at l.counter l.next
