-- `marking::index::rises` meets its contract: the places decide, or the colours where they are the same.
use Rattle.marking.proofs.Rising.{ordering}
use Rattle.marking.proofs.index.rises.Goals as goal

pub returns-then-at-eq0 : goal.returns-then-at-eq0
returns-then-at-eq0 c = search ordering

pub returns-then-place-p : goal.returns-then-place-p
returns-then-place-p c = search ordering

pub returns-then-p-place : goal.returns-then-p-place
returns-then-p-place c = search ordering

pub returns : goal.returns
returns c = search ordering
