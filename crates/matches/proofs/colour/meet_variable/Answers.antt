-- `matches::colour::meet_variable` meets its contract: each return is a rule of `Agreeing`.
use mathlib.Core.Bool.{not}
use mathlib.Core.Path.{ap}
use mir.Syntax.{w32}
use mir.Val.{SFits}
use mir.Facts.{to_z-of_z}
use borrow.Author.Rules.{rules, sfits_of}
use Rattle.matches.proofs.Agreeing.{met_beyond, met_old, met_outside, met_takes}
use Rattle.matches.proofs.colour.meet_variable.Goals as goal

pub returns-then-variables-n : goal.returns-then-variables-n
returns-then-variables-n c = met_beyond c.args.net.now c.args.variables c.args.ranges c.args.b.now c.args.n c.args.z c.if-variables-n.true

pub returns-then-not-in_range : goal.returns-then-not-in_range
returns-then-not-in_range c = met_outside c.args.net.now c.args.variables c.args.ranges c.args.b.now c.args.n c.args.z c.if-variables-n.false _ c.value_of.ensures c.in-None.is (simp (to_z-of_z c.ranges.z) at c.in_range.ensures) (ap not c.if-not-in_range.true)

pub returns-in-Some : goal.returns-in-Some
returns-in-Some c = let f : SFits w32 c.in-Some.old = sfits_of (search rules) in met_old c.args.net.now c.args.variables c.args.ranges c.args.b.now c.args.n c.args.z c.if-variables-n.false _ c.value_of.ensures _ c.in-Some.is (simp (to_z-of_z c.ranges.z, to_z-of_z f) at c.equal.ensures) c.met_if.ensures

pub returns-else-not-in_range : goal.returns-else-not-in_range
returns-else-not-in_range c = met_takes c.args.net.now c.args.variables c.args.ranges c.args.b.now c.args.n c.args.z c.if-variables-n.false _ c.value_of.ensures c.in-None.is (simp (to_z-of_z c.ranges.z) at c.in_range.ensures) (ap not c.if-not-in_range.false) (simp (to_z-of_z c.ranges.z) at c.value_word.ensures)
