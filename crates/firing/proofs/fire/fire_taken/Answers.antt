-- `firing::fire::fire_taken` meets its contract: each return is a rule of `Firing`.
use mathlib.Core.Path.{refl}
use native.Mathlib.Omega.{arith}
use Rattle.gathering.proofs.Gathering.{known_nothing}
use Rattle.occurrence.proofs.Covering.{keys_front, amounts_front}
use Rattle.firing.proofs.Firing.{fireable-outputs, gathered-moves, fired_14, fired_stepping, fired-step}
use Rattle.firing.proofs.fire.fire_taken.Goals as goal

pub gather-outs-requires : goal.gather-outs-requires
gather-outs-requires c = record { places_fit = c.requires.places_fit; ats_len_bound = c.requires.outputs_len_bound; keys_len = (refl, refl); every = fireable-outputs c.requires.taken_at.enabled.fireable; known = known_nothing _ _ _ _ _ _ }

pub returns-then-not-outs : goal.returns-then-not-outs
returns-then-not-outs c = record { fired = λ is arcs i. record { fired = λ gs e. record { fired = λ q. fired_14 q e i c.gather-outs.ensures.gathered c.args.next.now c.if-not-outs.true } } }

pub slice_bounds-fire_keys-end : goal.slice_bounds-fire_keys-end
slice_bounds-fire_keys-end c = keys_front c.requires.taken_at.gathered

pub slice_bounds-fire_keys-end-2 : goal.slice_bounds-fire_keys-end-2
slice_bounds-fire_keys-end-2 c = amounts_front c.requires.taken_at.gathered

pub slice_bounds-out_keys-end : goal.slice_bounds-out_keys-end
slice_bounds-out_keys-end c = let x = c.gather-outs.ensures.gathered in let few = x.few in let l = x.keys_full in omega arith

pub slice_bounds-fire_keys-end-3 : goal.slice_bounds-fire_keys-end-3
slice_bounds-fire_keys-end-3 c = keys_front c.gather-outs.ensures.gathered

pub slice_bounds-out_amounts-end : goal.slice_bounds-out_amounts-end
slice_bounds-out_amounts-end c = let x = c.gather-outs.ensures.gathered in let few = x.few in let l = x.amounts_full in omega arith

pub slice_bounds-fire_keys-end-4 : goal.slice_bounds-fire_keys-end-4
slice_bounds-fire_keys-end-4 c = amounts_front c.gather-outs.ensures.gathered

pub fire_keys-requires : goal.fire_keys-requires
fire_keys-requires c =
    let t = c.requires.taken_at in
    let o = c.gather-outs.ensures.gathered in
    fired_stepping t.enabled.fireable t.enabled.enabled t.gathered o c.if-not-outs.false (gathered-moves c.requires.places_fit c.requires.begins_len t.gathered o)

pub returns : goal.returns
returns c =
    let o = c.gather-outs.ensures.gathered in
    record { fired = λ is arcs i. record { fired = λ gs e. record { fired = λ q. fired-step q e i o c.if-not-outs.false (gathered-moves c.requires.places_fit c.requires.begins_len i o) c.fire_keys.ensures } } }
