-- `text::put::put_bytes` meets its contract: the loop keeps what is left to put.
use lib.ListN.{drop}
use Rattle.text.proofs.Putting.{Left}
use Rattle.text.proofs.put.put_bytes.Given as goal

abbrev pub invariant-loop-b : goal.invariant-loop-b
invariant-loop-b l = Left l.initial.out l.at l.text l.out l.next (drop l.b-index l.text)
