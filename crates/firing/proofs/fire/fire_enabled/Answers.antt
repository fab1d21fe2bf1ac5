-- `firing::fire::fire_enabled` meets its contract: an enabled binding takes something from each input arc, so as `fire_taken`.
use mathlib.Core.Path.{refl, sym}
use Rattle.gathering.proofs.Gathering.{known_nothing}
use Rattle.firing.proofs.Firing.{fireable-inputs, enabled-gathered}
use Rattle.firing.proofs.fire.fire_enabled.Goals as goal

pub gather-ins-requires : goal.gather-ins-requires
gather-ins-requires c = record { places_fit = c.requires.places_fit; ats_len_bound = c.requires.inputs_len_bound.0; keys_len = (refl, refl); every = fireable-inputs c.requires.enabled_at.fireable; known = known_nothing _ _ _ _ _ _ }

pub slice_bounds-fire_taken-end : goal.slice_bounds-fire_taken-end
slice_bounds-fire_taken-end c = sym c.gather-ins.ensures.gathered.keys_full

pub slice_bounds-fire_taken-end-2 : goal.slice_bounds-fire_taken-end-2
slice_bounds-fire_taken-end-2 c = sym c.gather-ins.ensures.gathered.amounts_full

pub fire_taken-requires : goal.fire_taken-requires
fire_taken-requires c =
    let q = c.requires.enabled_at in
    record { places_fit = c.requires.places_fit; begins_len = c.requires.begins_len; outputs_len_bound = c.requires.inputs_len_bound.1; taken_at = record { inputs = _; enabled = q; arcs = _; gathered = enabled-gathered q.fireable q.enabled c.gather-ins.ensures.gathered } }

pub returns : goal.returns
returns c = let q = c.requires.enabled_at in c.fire_taken.ensures.fired _ _ (enabled-gathered q.fireable q.enabled c.gather-ins.ensures.gathered)
