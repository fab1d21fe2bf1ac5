-- `arrivals::step::arrive_match` meets its contract: the arc stands there, and its tries are told by the rule of `Aiming`.
use native.Mathlib.Omega.{arith}
use Rattle.net.proofs.Placed.{place_inside, fits_at_lem}
use Rattle.net.proofs.Standing.{arc-inside, place-there}
use Rattle.arrivals.proofs.Aiming.{components_near, entries-up, match-aimed}
use Rattle.arrivals.proofs.step.arrive_match.Goals as goal

pub offset_bounds-net-at : goal.offset_bounds-net-at
offset_bounds-net-at c = let w = c.requires.target in let k = arc-inside w.stands in omega arith

pub bounds-net-at : goal.bounds-net-at
bounds-net-at c = let w = c.requires.target in arc-inside w.stands

pub offset_bounds-begins-place : goal.offset_bounds-begins-place
offset_bounds-begins-place c = let w = c.requires.target in let k = place-there w.stands c.payload-place.ensures.0 in let f = c.requires.places_fit.few in let b = c.requires.begins_len in omega arith

pub bounds-begins-place : goal.bounds-begins-place
bounds-begins-place c = let w = c.requires.target in let k = place-there w.stands c.payload-place.ensures.0 in let f = c.requires.places_fit.few in let b = c.requires.begins_len in omega arith

pub overflow_add-to : goal.overflow_add-to
overflow_add-to c = let w = c.requires.target in let k = place-there w.stands c.payload-place.ensures.0 in let f = c.requires.places_fit.few in let b = c.requires.begins_len in omega arith

pub offset_bounds-begins-place-2 : goal.offset_bounds-begins-place-2
offset_bounds-begins-place-2 c = let w = c.requires.target in let k = place-there w.stands c.payload-place.ensures.0 in let f = c.requires.places_fit.few in let b = c.requires.begins_len in omega arith

pub bounds-begins-place-2 : goal.bounds-begins-place-2
bounds-begins-place-2 c = let w = c.requires.target in let k = place-there w.stands c.payload-place.ensures.0 in let f = c.requires.places_fit.few in let b = c.requires.begins_len in omega arith

pub offset_bounds-places-place : goal.offset_bounds-places-place
offset_bounds-places-place c = let w = c.requires.target in let k = place-there w.stands c.payload-place.ensures.0 in let f = c.requires.places_fit.few in let b = c.requires.begins_len in omega arith

pub bounds-places-place : goal.bounds-places-place
bounds-places-place c = let w = c.requires.target in place-there w.stands c.payload-place.ensures.0

pub offset_bounds-net-places : goal.offset_bounds-net-places
offset_bounds-net-places c = let w = c.requires.target in let i = place_inside c.requires.places_fit (place-there w.stands c.payload-place.ensures.0) in omega arith

pub bounds-net-places : goal.bounds-net-places
bounds-net-places c = let w = c.requires.target in let i = place_inside c.requires.places_fit (place-there w.stands c.payload-place.ensures.0) in omega arith

pub overflow_add-at : goal.overflow_add-at
overflow_add-at c = let w = c.requires.target in let k = components_near w in omega arith

pub parts_at-requires : goal.parts_at-requires
parts_at-requires c = let w = c.requires.target in let n = (fits_at_lem c.requires.places_fit _ (place-there w.stands c.payload-place.ensures.0)).narrow in let e = c.payload-width.ensures.0 in record { n_bound = omega arith; parts_len = c.requires.blank.full }

pub known_parts-requires : goal.known_parts-requires
known_parts-requires c = let w = c.requires.target in let n = (fits_at_lem c.requires.places_fit _ (place-there w.stands c.payload-place.ensures.0)).narrow in let e = c.payload-width.ensures.0 in record { variables_in_bounds = (c.requires.variables_in_bounds, omega arith); known_value = c.requires.blank.blank }

pub overflow_sub-to : goal.overflow_sub-to
overflow_sub-to c = let w = c.requires.target in entries-up w c.payload-place.ensures.0

pub overflow_add-width : goal.overflow_add-width
overflow_add-width c = let w = c.requires.target in let n = (fits_at_lem c.requires.places_fit _ (place-there w.stands c.payload-place.ensures.0)).narrow in let e = c.payload-width.ensures.0 in omega arith

pub returns : goal.returns
returns c = let w = c.requires.target in (match-aimed w c.payload-place.ensures.0 c.requires.places_fit c.args.e c.payload-width.ensures.0 c.parts_at.ensures c.entries-count.ensures, record { full = c.parts_at.ensures.full; knows = c.known_parts.ensures })
