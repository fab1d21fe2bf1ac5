-- `beginnings::begins::pass_place` meets its contract: each turn passes one entry of the place.
use native.Mathlib.Omega.{arith}
use Rattle.beginnings.proofs.Known.{passed_start, passed_turn}
use Rattle.beginnings.proofs.begins.pass_place.Goals as goal

pub loop-at-init : goal.loop-at-init
loop-at-init c = passed_start _ _ _ _

pub returns-then-words-at : goal.returns-then-words-at
returns-then-words-at c = record { passed = c.loop-at.invariant; stops = λ h e. let d = c.if-words-at.true in omega arith }

pub overflow_add-at : goal.overflow_add-at
overflow_add-at c = omega (arith, c.requires.1)

pub loop-at-smaller : goal.loop-at-smaller
loop-at-smaller c = omega (arith, c.requires.0)

pub loop-at-preserved : goal.loop-at-preserved
loop-at-preserved c = passed_turn c.loop-at.invariant c.loop-at-test.true c.if-words-at.false

pub returns : goal.returns
returns c = record { passed = c.loop-at.invariant; stops = λ h. absurd (omega arith) }
