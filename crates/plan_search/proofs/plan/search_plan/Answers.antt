-- `plan_search::plan::search_plan` meets its contract: at the end of an empty plan by the rules of a leaf, else as `walk`.
use mathlib.Core.Path.{refl, sym}
use native.Mathlib.Omega.{arith}
use Rattle.search.proofs.Worlds.{few-inputs}
use Rattle.plan_search.proofs.Sparing.{settling}
use Rattle.plan_search.proofs.OnlyLeaf.{only-handed, walked_leaf}
use Rattle.plan_search.proofs.plan.search_plan.Goals as goal

pub only_leaf-one-requires : goal.only_leaf-one-requires
only_leaf-one-requires c =
    let L = only-handed c.requires.world 0 c.args.slots.now c.requires.sound (sym c.if-elements-eq0.true) c.requires.slots_len c.requires.held in
    record {
      places_fit = L.0;
      begins_len = L.1.0;
      inputs_len_bound = L.1.1.0;
      every = L.1.1.1.0;
      every_2 = L.1.1.1.1.0;
      every_3 = L.1.1.1.1.1.0;
      held = L.1.1.1.1.1.1;
    }

pub returns-then-elements-eq0 : goal.returns-then-elements-eq0
returns-then-elements-eq0 c = walked_leaf c.requires.world 0 c.args.slots.now c.requires.sound (sym c.if-elements-eq0.true) c.requires.slots_len (record { paid = omega arith; on = refl }) c.only_leaf-one.ensures

pub walk-requires : goal.walk-requires
walk-requires c = let n = c.if-elements-eq0.false in record { world = c.requires.world; depth_in_bounds = (omega arith, c.requires.slots_len); sound = c.requires.sound; settling = settling c.requires.world (few-inputs c.requires.world) c.requires.unspared _; held = c.requires.held; unspent = record { paid = omega arith; on = refl } }
