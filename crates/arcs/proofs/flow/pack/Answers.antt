-- `arcs::flow::pack` meets its contract: the loop of `Packing`.
use native.Mathlib.Omega.{arith}
use Rattle.arcs.proofs.Packing.{packing_room, digit_low, packing_past, packing_nothing, packing}
use Rattle.arcs.proofs.flow.pack.Goals as goal

pub loop-i-init : goal.loop-i-init
loop-i-init c = search packing

pub component_at-requires : goal.component_at-requires
component_at-requires c = search packing

pub returns-in_default : goal.returns-in_default
returns-in_default c = packing_nothing c.loop-i.invariant (omega arith) c.in_default.ensures

pub put_digit-coded-requires : goal.put_digit-coded-requires
put_digit-coded-requires c = (packing_room c.loop-i.invariant (omega arith) (omega arith), digit_low c.in-Some.ensures)

pub loop-i-preserved-in_default-digit : goal.loop-i-preserved-in_default-digit
loop-i-preserved-in_default-digit c = packing_past c.loop-i.invariant (omega arith) c.in-Some.ensures c.in_default-digit.is

pub loop-i-preserved : goal.loop-i-preserved
loop-i-preserved c = search packing

pub returns-in-Some-coded : goal.returns-in-Some-coded
returns-in-Some-coded c = search packing

pub returns-in-None : goal.returns-in-None
returns-in-None c = search packing
