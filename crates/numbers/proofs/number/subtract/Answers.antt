-- `numbers::number::subtract` meets its contract.
use mir.Facts.{to_z-of_z}
use Rattle.semantics.specs.Expression.{operate}
use Rattle.word.proofs.Read.{read_wide}
use Rattle.numbers.proofs.Bounded.{difference_fits}
use Rattle.numbers.proofs.number.subtract.Goals as goal

pub returns : goal.returns
unfolding operate
returns c =
    let f = c.ranges in
    simp (c.from.ensures, c.from-2.ensures, to_z-of_z f.x, to_z-of_z f.y, read_wide f.x, read_wide f.y, to_z-of_z (difference_fits f.x f.y)) at c.short_of.ensures
