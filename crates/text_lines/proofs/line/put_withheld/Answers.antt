-- `text_lines::line::put_withheld` meets its contract: one text after the other.
use Rattle.semantics.specs.Print.{after_first}
use Rattle.text.proofs.Putting.{put_then}
use Rattle.text_lines.proofs.line.put_withheld.Goals as goal

pub returns : goal.returns
unfolding after_first
returns c = put_then c.put_decimal-first.ensures (put_then c.put_bytes-second.ensures (put_then c.put_next-third.ensures c.put_byte.ensures))
