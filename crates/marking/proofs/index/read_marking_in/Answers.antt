-- `marking::index::read_marking_in` meets its contract: m beyond the buffer, or what read_marking tells of its first m words.
use mathlib.Core.Path.{refl, sym}
use lib.Seq.{length-take-le}
use native.Mathlib.Omega.{arith}
use Rattle.marking.proofs.index.read_marking_in.Goals as goal

pub returns-then-buffer-m : goal.returns-then-buffer-m
returns-then-buffer-m c = record { beyond = λ h. refl; within = λ h. absurd (omega (arith, c.if-buffer-m.true)) }

pub slice_bounds-read_marking-end : goal.slice_bounds-read_marking-end
slice_bounds-read_marking-end c = sym (length-take-le _ _ c.if-buffer-m.false)

pub returns : goal.returns
returns c = record { beyond = λ h. absurd (omega (arith, c.if-buffer-m.false)); within = λ h. c.read_marking.ensures }
