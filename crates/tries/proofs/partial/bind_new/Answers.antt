-- `tries::partial::bind_new` meets its contract: each return is a rule of `Binding`.
use mathlib.Core.Bool.{not}
use mathlib.Core.Path.{ap}
use mir.Facts.{to_z-of_z}
use Rattle.tries.proofs.Slots.{tried_not, tried_on}
use Rattle.tries.proofs.Binding.{bind-beyond, bind-outside, bind-inside}
use Rattle.tries.proofs.partial.bind_new.Goals as goal

pub returns-then-variables-n : goal.returns-then-variables-n
returns-then-variables-n c =
    let a = c.args in
    tried_not (bind-beyond a.net.now a.variables a.ranges a.slots.now a.n a.z c.if-variables-n.true)

pub returns-then-not-in_range : goal.returns-then-not-in_range
returns-then-not-in_range c =
    let a = c.args in
    tried_not (bind-outside a.net.now a.variables a.ranges a.slots.now a.n a.z c.if-variables-n.false (simp (to_z-of_z c.ranges.z) at c.in_range.ensures) (ap not c.if-not-in_range.true))

pub returns : goal.returns
returns c =
    let a = c.args in
    tried_on (bind-inside a.net.now a.variables a.ranges a.slots.now a.n a.z c.if-variables-n.false (simp (to_z-of_z c.ranges.z) at c.in_range.ensures) (ap not c.if-not-in_range.false) (simp (to_z-of_z c.ranges.z) at c.value_word.ensures))
