-- `spares::spare::is_spared` meets its contract: an arc that passes all tests is spared, and none where one fails.
use native.Mathlib.Omega.{arith}
use Rattle.net.proofs.Standing.{place-there}
use Rattle.spares.proofs.Sparing.{arc_at, inputs-inside, coefficient-there, components-there}
use Rattle.spares.proofs.spare.is_spared.Goals as goal

pub overflow_add-at : goal.overflow_add-at
overflow_add-at c = omega (arith, coefficient-there c.requires.within c.requires.k_in_bounds.0)

pub offset_bounds-net-at : goal.offset_bounds-net-at
offset_bounds-net-at c = omega (arith, coefficient-there c.requires.within c.requires.k_in_bounds.0)

pub bounds-net-at : goal.bounds-net-at
bounds-net-at c = coefficient-there c.requires.within c.requires.k_in_bounds.0

pub bounds-places-place : goal.bounds-places-place
bounds-places-place c = place-there (arc_at c.requires.within _ c.requires.k_in_bounds.0) c.payload-place.ensures.0

pub lone_words-requires : goal.lone_words-requires
lone_words-requires c = components-there c.requires.within c.requires.k_in_bounds.0 c.payload-place.ensures.0 c.payload-width.ensures.0 c.if-net-at-ne1879048193.false

pub alone-requires-clause-inside : goal.alone-requires-clause-inside
alone-requires-clause-inside c = inputs-inside c.requires.within
