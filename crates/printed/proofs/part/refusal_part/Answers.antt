-- `printed::part::refusal_part` meets its contract: the first part is the line, and there is no other.
use native.Mathlib.Omega.{arith}
use Rattle.printed.proofs.Parts.{part_none, part-first}
use Rattle.printed.proofs.part.refusal_part.Goals as goal

pub returns-then-i-eq0 : goal.returns-then-i-eq0
returns-then-i-eq0 c = part-first c.if-i-eq0.true c.put_bad_input.ensures

pub returns : goal.returns
returns c = let h = c.if-i-eq0.false in part_none _ _ (omega arith)
