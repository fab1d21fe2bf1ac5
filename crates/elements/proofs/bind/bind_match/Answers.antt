-- `elements::bind::bind_match` meets its contract: the rules of `Binding`.
use Rattle.elements.proofs.Binding.{coefficient-low, coefficient-high, binding}
use Rattle.elements.proofs.bind.bind_match.Goals as goal
use Rattle.elements.proofs.bind.bind_match.Goals.{then-z-lt1-via-then-z-lt1, then-z-lt1-via-else-z-lt1+then-z-gt8191}

pub returns-in_default : goal.returns-in_default
returns-in_default c = search binding

pub returns-then-widths-place : goal.returns-then-widths-place
returns-then-widths-place c = search binding

pub returns-in_default-take : goal.returns-in_default-take
returns-in_default-take c = search binding

pub returns : goal.returns
returns c = search binding

pub returns-then-z-lt1 : goal.returns-then-z-lt1
returns-then-z-lt1 c =
    elim c.then-z-lt1.branch [ then-z-lt1-via-then-z-lt1 w ↦ coefficient-low _ _ _ _ _ c.take.ensures c.in-Ok.is c.take-2.ensures c.in-Ok-take.is w.if-z-lt1.true | then-z-lt1-via-else-z-lt1+then-z-gt8191 w ↦ coefficient-high _ _ _ _ _ c.take.ensures c.in-Ok.is c.take-2.ensures c.in-Ok-take.is w.if-z-lt1.false w.if-z-gt8191.true ]
