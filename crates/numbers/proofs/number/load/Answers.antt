-- `numbers::number::load` meets its contract: a depth of 0 or more is its mag.
use mathlib.Core.Path.{refl}
use Rattle.semantics.specs.Expression.{load_of}
use Rattle.word.proofs.Read.{negative, natural, read_natural, read_back}
use Rattle.numbers.proofs.Loads.{load_at, load_past}
use Rattle.numbers.proofs.number.load.Goals as goal

pub returns-then-depth-lt0 : goal.returns-then-depth-lt0
unfolding load_of
returns-then-depth-lt0 c = rw (negative c.ranges.depth c.if-depth-lt0.true) refl

pub returns-in_err-load : goal.returns-in_err-load
returns-in_err-load c =
    let f = c.ranges.depth in
    let t = c.if-depth-lt0.false in
    let high = simp (read_natural f t) at c.in_err-load.ensures.lookup in
    rw (c.from_residual.ensures, natural f t, load_past _ high.3) refl

pub returns : goal.returns
returns c =
    let f = c.ranges.depth in
    let t = c.if-depth-lt0.false in
    let low = (simp (read_natural f t) at c.in_ok-load.ensures.lookup).3 in
    rw (read_back c.from.result c.from.type_inv, c.from.ensures, natural f t, load_at _ low.0, low.1 0) refl
