-- `arcs::flow::move_at` meets its contract: each answer by its rule in `Flowing`; the place's words stand in the net, since places fit.
use Rattle.net.proofs.Placed.{place-room}
use Rattle.net.proofs.Standing.{place-there}
use Rattle.arcs.proofs.Flowing.{behind-coefficient, place-narrow, moving-arc}
use Rattle.arcs.proofs.flow.move_at.Goals as goal

pub pack-colour-requires : goal.pack-colour-requires
pack-colour-requires c =
    let a = c.requires.has_arc in
    let g = c.payload-place.ensures.0 in
    let e = c.payload-width.ensures.0 in
    record {
      n_bound = (place-narrow a g c.requires.places_fit e, place-room c.requires.places_fit (place-there a g) e);
      has_several = behind-coefficient c.args.binding.now a c.coefficient_at.ensures c.in-Some.is g e;
    }

pub offset_bounds-net-at : goal.offset_bounds-net-at
offset_bounds-net-at c = search moving-arc

pub bounds-net-at : goal.bounds-net-at
bounds-net-at c = search moving-arc

pub overflow_add-at : goal.overflow_add-at
overflow_add-at c = search moving-arc

pub coefficient_at-requires : goal.coefficient_at-requires
coefficient_at-requires c = search moving-arc

pub bounds-places-place : goal.bounds-places-place
bounds-places-place c = search moving-arc

pub bounds-net-from : goal.bounds-net-from
bounds-net-from c = search moving-arc

pub tokens_of-requires : goal.tokens_of-requires
tokens_of-requires c = search moving-arc

pub returns-in_default : goal.returns-in_default
returns-in_default c = search moving-arc

pub returns : goal.returns
returns c = search moving-arc
