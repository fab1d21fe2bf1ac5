-- `firing::fire::fire_arcs` meets its contract: 13, or as `fire_taken`.
use mathlib.Core.Path.{refl, sym}
use Rattle.firing.proofs.Firing.{fireable-guard, fireable-inputs, taken-known, fired_13}
use Rattle.firing.proofs.fire.fire_arcs.Goals as goal

pub taken-ins-requires : goal.taken-ins-requires
taken-ins-requires c = let q = c.requires.fireable_at in record { places_fit = c.requires.places_fit; begins_len = c.requires.begins_len; inputs_len_bound = c.requires.inputs_len_bound.0; keys_len = (refl, refl); every = fireable-guard q; every_2 = fireable-inputs q }

pub returns-then-not-ins : goal.returns-then-not-ins
returns-then-not-ins c = record { fired = λ q. fired_13 q c.taken-ins.ensures.enabled c.args.next.now c.if-not-ins.true }

pub slice_bounds-fire_taken-end : goal.slice_bounds-fire_taken-end
slice_bounds-fire_taken-end c = sym (taken-known c.taken-ins.ensures c.if-not-ins.false).1.keys_full

pub slice_bounds-fire_taken-end-2 : goal.slice_bounds-fire_taken-end-2
slice_bounds-fire_taken-end-2 c = sym (taken-known c.taken-ins.ensures c.if-not-ins.false).1.amounts_full

pub fire_taken-requires : goal.fire_taken-requires
fire_taken-requires c =
    let k = taken-known c.taken-ins.ensures c.if-not-ins.false in
    record { places_fit = c.requires.places_fit; begins_len = c.requires.begins_len; outputs_len_bound = c.requires.inputs_len_bound.1; taken_at = record { inputs = _; enabled = record { conjuncts = _; fireable = c.requires.fireable_at; enabled = k.0 }; arcs = _; gathered = k.1 } }

pub returns : goal.returns
returns c =
    let k = taken-known c.taken-ins.ensures c.if-not-ins.false in
    (c.fire_taken.ensures.fired _ _ k.1).fired _ k.0
