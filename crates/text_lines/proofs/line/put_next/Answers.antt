-- `text_lines::line::put_next` meets its contract: one text after the other.
use Rattle.text.proofs.Putting.{put_then}
use Rattle.text_lines.proofs.line.put_next.Goals as goal

pub returns : goal.returns
returns c = put_then c.put_byte-next.ensures c.put_decimal.ensures
