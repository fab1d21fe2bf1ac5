-- `numbers::number::remainder` meets its contract.
use mathlib.Core.Path.{refl}
use mir.Syntax.{w32}
use mir.Facts.{to_z-of_z, to_z_pos}
use Prim.Native.Nat.{◌<◌, ◌^◌}
use native.Mathlib.Omega.{arith}
use Rattle.semantics.specs.Expression.{operate}
use Rattle.word.proofs.Read.{read_positive}
use Rattle.numbers.proofs.number.remainder.Goals as goal

pub returns-then-d-gt0 : goal.returns-then-d-gt0
unfolding operate
returns-then-d-gt0 c =
    let d = c.ranges.d in
    let h = simp (read_positive d c.if-d-gt0.true) at c.modulo.ensures in
    let low : c.modulo.result < 2 ^ 31 = omega (arith, h.1, d.sfits) in
    let k = simp (to_z-of_z c.ranges.x, to_z-of_z d) at c.modulo.ensures in
    rw (to_z_pos w32 low, k.0, simp (to_z-of_z d) at c.if-d-gt0.true) refl

pub returns-else-d-gt0 : goal.returns-else-d-gt0
unfolding operate
returns-else-d-gt0 c = rw (simp (to_z-of_z c.ranges.d) at c.if-d-gt0.false) refl
