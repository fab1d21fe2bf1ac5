-- `text_lines::line::put_later` meets its contract: the loop keeps what is left of the line.
use Rattle.text.proofs.Putting.{Left}
use Rattle.text_lines.proofs.Lines.{later_text}
use Rattle.text_lines.proofs.line.put_later.Given as goal

abbrev pub invariant-loop-w : goal.invariant-loop-w
invariant-loop-w l = Left l.initial.out l.at (later_text l.later 0) l.out l.next (later_text l.later l.w-index)
