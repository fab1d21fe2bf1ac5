-- `elements::bind::bind_each` meets its contract: the loop of `Binding`.
use native.Mathlib.Omega.{arith}
use Rattle.elements.proofs.Binding.{binding_turn, binding-stop, binding}
use Rattle.elements.proofs.bind.bind_each.Goals as goal

pub returns-in_default : goal.returns-in_default
returns-in_default c =
    binding-stop c.loop.invariant (omega arith) c.bind_lone-some.ensures c.skip_expression.ensures.0 c.in_default.is

pub loop-preserved : goal.loop-preserved
loop-preserved c =
    binding_turn c.loop.invariant (omega arith) c.bind_lone-some.ensures c.skip_expression.ensures.0 c.in-Ok.is

pub returns : goal.returns
returns c = search binding
