-- `text_lines::line::put_row` meets its contract: a row without values is an empty line, and one with values has its first and the later ones.
use Rattle.text_lines.proofs.Lines.{row-none, row-some}
use Rattle.text_lines.proofs.line.put_row.Goals as goal

pub returns-in_default : goal.returns-in_default
returns-in_default c = row-none c.args.row.now c.in_default.len_below c.put_byte.ensures

pub returns : goal.returns
returns c = row-some c.args.row.now c.in-len1-up.len_at_least c.put_value-next.ensures c.put_later.ensures
