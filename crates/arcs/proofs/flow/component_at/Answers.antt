-- `arcs::flow::component_at` meets its contract: a constant and a lone variable by their word, any other by `computed_at`.
use Rattle.arcs.proofs.Packing.{components}
use Rattle.arcs.proofs.flow.component_at.Goals as goal

pub offset_bounds-net-at : goal.offset_bounds-net-at
offset_bounds-net-at c = search components

pub bounds-net-at : goal.bounds-net-at
bounds-net-at c = search components

pub bounds-binding-payload : goal.bounds-binding-payload
bounds-binding-payload c = search components

pub returns-in-7 : goal.returns-in-7
returns-in-7 c = search components

pub returns-in-8 : goal.returns-in-8
returns-in-8 c = search components
