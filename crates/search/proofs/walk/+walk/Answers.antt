-- `search::walk::walk` meets its contract: the loop keeps `Trying` over the tries of the element, the slots as they were, and what is known of the first
-- arcs. A try that went on hands the same to a leaf as to a walk (`Onward`), and both leave the same of it (`Went`).
use mathlib.Core.Path.{◌≡◌, refl, sym, ap, ◌∙◌}
use mathlib.Core.List.{List}
use lib.ListN.{length, drop}
use Rattle.tries.specs.Partial.{partial_of}
use Rattle.leaves.specs.declared.progress.Progress.{Progress}
use Rattle.search.proofs.Walking.{Onward, Went, onward, went, ended_same, tested-there, tested-few, leaf_handed, settled_leaf, aiming, stepping, known_same, try_on, try_off, try_left, known_behind, back, kept_of, noted_of}
use Rattle.search.proofs.walk.+walk.Goals.{then-depth-elements, else-depth-elements, then-try_at+else-cur, else-try_at}
use Prim.Native.Nat.{ℕ, ◌+◌}
use native.Mathlib.Omega.{arith}
use borrow.Author.Rules.{rules}
use Rattle.gathering.specs.Gather.{Known}
use Rattle.gathering.proofs.Gathering.{known_nothing, known_kept}
use Rattle.search.specs.Scene.{scene_of}
use Rattle.search.specs.Search.{cost_from, rows_from}
use Rattle.search.proofs.Trying.{trying_start, ended_all, ended_spent, trying_skip, trying_same, ended-stop, trying_turn}
use Rattle.search.proofs.Worlds.{few-variables, few_elements, ranges-fit, next-element}
use Rattle.search.proofs.walk.+walk.Goals as goal

-- what a try that went on leaves, be it a leaf or a walk
abbrev Came : List ℕ → ℕ → List ℕ → (v most budget d : ℕ) → List ℕ → ℕ → Progress → List ℕ → Progress → List ℕ → List ℕ → Type 0
Came ws position ms v most budget d b n cur m r m' b' =
    Went v most budget cur m (cost_from (scene_of ws position ms) (drop (d + 1) (scene_of ws position ms).transition.plan) (partial_of v b))
    (rows_from (scene_of ws position ms) (drop (d + 1) (scene_of ws position ms).transition.plan) (partial_of v b)) n r m' b'

pub bounds-elements-depth : goal.bounds-elements-depth
bounds-elements-depth t c = c.requires.depth_in_bounds.0

pub element_at-requires : goal.element_at-requires
element_at-requires t c = (next-element c.requires.world c.args.depth c.requires.depth_in_bounds.0).there.inside

pub arrive-step-requires : goal.arrive-step-requires
arrive-step-requires t c =
    let W = c.requires.world in
    let l = c.requires.depth_in_bounds.1 in
    record {
      places_fit = W.fits;
      begins_len = W.beginnings;
      variables_in_bounds = (omega arith, ranges-fit W);
      aims = aiming W c.args.depth c.args.slots.now c.requires.sound c.requires.depth_in_bounds.0 c.element_at.ensures;
      blank = record { full = refl; blank = refl };
    }

pub gather_behind-first-requires : goal.gather_behind-first-requires
gather_behind-first-requires t c =
    let W = c.requires.world in
    let T = c.requires.settling in
    record {
      places_fit = W.fits;
      ats_len_bound = tested-few W T;
      keys_len = (refl, refl);
      every = tested-there W c.args.depth c.args.slots.now c.requires.sound c.requires.depth_in_bounds.1 T;
      known = known_nothing _ _ _ _ _ _;
    }

pub save-requires : goal.save-requires
save-requires t c =
    let l = c.requires.depth_in_bounds.1 in
    let v = few-variables c.requires.world in
    (omega arith, refl)

pub loop-i-init : goal.loop-i-init
loop-i-init t c = (
  trying_start _ _ _ _ _ _ _ _ c.requires.held c.requires.unspent,
  (refl, (c.gather_behind-first.ensures.gathered.known, (c.gather_behind-first.ensures.keeps.keys_long, c.gather_behind-first.ensures.keeps.amounts_long))),
)

pub returns-then-budget-t : goal.returns-then-budget-t
returns-then-budget-t t c =
    let P = stepping c.requires.world c.args.depth c.args.slots.now c.requires.sound c.requires.depth_in_bounds.0 c.element_at.ensures c.arrive-step.ensures in
    record {
      ended = ended_same P.cost P.rows (ended_spent c.loop-i.invariant.0 (rw P.count c.loop-i-test.true) c.if-budget-t.true);
      slots_unchanged = c.loop-i.invariant.1.0;
    }

pub overflow_add-position : goal.overflow_add-position
overflow_add-position t c = let r = ranges-fit c.requires.world in let g = c.well_formed.0 in search rules

pub try_at-requires : goal.try_at-requires
try_at-requires t c =
    let P = stepping c.requires.world c.args.depth c.args.slots.now c.requires.sound c.requires.depth_in_bounds.0 c.element_at.ensures c.arrive-step.ensures in
    record {
      slots_len = (ap length c.loop-i.invariant.1.0 ∙ c.requires.depth_in_bounds.1, ranges-fit c.requires.world);
      saved = kept_of c.requires.world c.args.depth c.args.slots.now c.requires.sound c.loop-i.invariant.1.0 c.save.ensures;
      safe = P.safe;
      ready = P.ready;
      noted = noted_of c.requires.world c.args.depth c.args.slots.now c.requires.sound P c.loop-i.invariant.1.0;
      i_lt_count = c.loop-i-test.true;
    }

pub overflow_add-depth : goal.overflow_add-depth
overflow_add-depth t c = let f = few_elements c.requires.world in let h = c.requires.depth_in_bounds.0 in search rules

pub leaf-one-requires : goal.leaf-one-requires
leaf-one-requires t c =
    let P = stepping c.requires.world c.args.depth c.args.slots.now c.requires.sound c.requires.depth_in_bounds.0 c.element_at.ensures c.arrive-step.ensures in
    let O : Onward (scene_of c.args.net.now c.args.position c.args.marking.now) c.args.inputs.now c.args.tested.now c.args.variables c.args.depth c.try_at.new.slots c.args.most c.args.budget c.loop-i.cur c.loop-i.menu =
    onward c.requires.world c.args.depth c.args.slots.now c.requires.sound P c.loop-i.i c.loop-i.invariant.1.0 c.try_at.ensures c.loop-i-test.true c.if-try_at.true c.requires.depth_in_bounds.1 c.try_at.auto.slots c.requires.settling c.loop-i.invariant.0.held
    (record { paid = let k = c.if-budget-t.false in omega arith; on = c.loop-i.invariant.0.unspent.on }) in
    let L =
    leaf_handed c.requires.world (c.args.depth + 1) c.try_at.new.slots O.sound c.if-depth-elements.true O.long c.args.tested.now (tested-few c.requires.world O.settled) c.loop-i.invariant.1.1.1
    (tested-there c.requires.world (c.args.depth + 1) c.try_at.new.slots O.sound O.long O.settled)
    (known_behind c.requires.world c.args.depth c.args.slots.now c.requires.sound P c.loop-i.i c.loop-i.invariant.1.0 c.try_at.ensures c.requires.depth_in_bounds.1 O.long (rw P.count c.loop-i-test.true) c.if-try_at.true c.loop-i.invariant.1.1.0) O.held in
    record {
      places_fit = L.0;
      begins_len = L.1.0;
      inputs_len_bound = L.1.1.0;
      keys_len = L.1.1.1.0;
      every = L.1.1.1.1.0;
      every_2 = L.1.1.1.1.1.0;
      known = L.1.1.1.1.1.1.0;
      every_3 = L.1.1.1.1.1.1.1.0;
      held = L.1.1.1.1.1.1.1.1;
    }

pub overflow_add-depth-else-depth-elements : goal.overflow_add-depth-else-depth-elements
overflow_add-depth-else-depth-elements t c = let f = few_elements c.requires.world in let h = c.requires.depth_in_bounds.0 in search rules

pub walk-cur-requires : goal.walk-cur-requires
walk-cur-requires t c =
    let P = stepping c.requires.world c.args.depth c.args.slots.now c.requires.sound c.requires.depth_in_bounds.0 c.element_at.ensures c.arrive-step.ensures in
    let O : Onward (scene_of c.args.net.now c.args.position c.args.marking.now) c.args.inputs.now c.args.tested.now c.args.variables c.args.depth c.try_at.new.slots c.args.most c.args.budget c.loop-i.cur c.loop-i.menu =
    onward c.requires.world c.args.depth c.args.slots.now c.requires.sound P c.loop-i.i c.loop-i.invariant.1.0 c.try_at.ensures c.loop-i-test.true c.if-try_at.true c.requires.depth_in_bounds.1 c.try_at.auto.slots c.requires.settling c.loop-i.invariant.0.held
    (record { paid = let k = c.if-budget-t.false in omega arith; on = c.loop-i.invariant.0.unspent.on }) in
    let h = c.requires.depth_in_bounds.0 in
    let n = c.if-depth-elements.false in
    (omega arith, (c.requires.world, ((omega arith, O.long), (O.sound, (O.settled, (O.held, O.unspent))))))

pub restore-requires : goal.restore-requires
restore-requires t c =
    let P = stepping c.requires.world c.args.depth c.args.slots.now c.requires.sound c.requires.depth_in_bounds.0 c.element_at.ensures c.arrive-step.ensures in
    let O : Onward (scene_of c.args.net.now c.args.position c.args.marking.now) c.args.inputs.now c.args.tested.now c.args.variables c.args.depth c.try_at.new.slots c.args.most c.args.budget c.loop-i.cur c.loop-i.menu =
    onward c.requires.world c.args.depth c.args.slots.now c.requires.sound P c.loop-i.i c.loop-i.invariant.1.0 c.try_at.ensures c.loop-i-test.true c.if-try_at.true c.requires.depth_in_bounds.1 c.try_at.auto.slots c.requires.settling c.loop-i.invariant.0.held
    (record { paid = let k = c.if-budget-t.false in omega arith; on = c.loop-i.invariant.0.unspent.on }) in
    let n : length c.try_at.new.slots ≡ length c.args.slots.now = O.long ∙ sym c.requires.depth_in_bounds.1 in
    let G : Came c.args.net.now c.args.position c.args.marking.now c.args.variables c.args.most c.args.budget c.args.depth c.try_at.new.slots (length c.args.slots.now) c.loop-i.cur c.loop-i.menu c.if-depth-elements.cur c.if-depth-elements.menu c.if-depth-elements.slots =
    elim c.if-depth-elements.branch [
      | then-depth-elements w ↦
          went (settled_leaf c.requires.world (c.args.depth + 1) c.try_at.new.slots O.sound w.if-depth-elements.true O.long O.settled O.unspent w.leaf-one.ensures.leaf) w.leaf-one.auto.menu n w.slots-is w.menu-is w.cur-is
      | else-depth-elements w ↦ went w.walk-cur.ensures.ended w.walk-cur.auto.menu (w.walk-cur.auto.slots ∙ n) w.slots-is w.menu-is w.cur-is
    ] in
    let l = G.slots in
    let k = c.save.ensures.few in
    (omega arith, c.save.ensures.full)

pub returns-then-cur : goal.returns-then-cur
returns-then-cur t c =
    let P = stepping c.requires.world c.args.depth c.args.slots.now c.requires.sound c.requires.depth_in_bounds.0 c.element_at.ensures c.arrive-step.ensures in
    let O : Onward (scene_of c.args.net.now c.args.position c.args.marking.now) c.args.inputs.now c.args.tested.now c.args.variables c.args.depth c.try_at.new.slots c.args.most c.args.budget c.loop-i.cur c.loop-i.menu =
    onward c.requires.world c.args.depth c.args.slots.now c.requires.sound P c.loop-i.i c.loop-i.invariant.1.0 c.try_at.ensures c.loop-i-test.true c.if-try_at.true c.requires.depth_in_bounds.1 c.try_at.auto.slots c.requires.settling c.loop-i.invariant.0.held
    (record { paid = let k = c.if-budget-t.false in omega arith; on = c.loop-i.invariant.0.unspent.on }) in
    let n : length c.try_at.new.slots ≡ length c.args.slots.now = O.long ∙ sym c.requires.depth_in_bounds.1 in
    let G : Came c.args.net.now c.args.position c.args.marking.now c.args.variables c.args.most c.args.budget c.args.depth c.try_at.new.slots (length c.args.slots.now) c.loop-i.cur c.loop-i.menu c.if-depth-elements.cur c.if-depth-elements.menu c.if-depth-elements.slots =
    elim c.if-depth-elements.branch [
      | then-depth-elements w ↦
          went (settled_leaf c.requires.world (c.args.depth + 1) c.try_at.new.slots O.sound w.if-depth-elements.true O.long O.settled O.unspent w.leaf-one.ensures.leaf) w.leaf-one.auto.menu n w.slots-is w.menu-is w.cur-is
      | else-depth-elements w ↦ went w.walk-cur.ensures.ended w.walk-cur.auto.menu (w.walk-cur.auto.slots ∙ n) w.slots-is w.menu-is w.cur-is
    ] in
    record {
      ended = ended_same P.cost P.rows
          (ended-stop c.loop-i.invariant.0 (rw P.count c.loop-i-test.true) _ (try_on c.requires.world c.args.depth c.args.slots.now c.requires.sound P c.loop-i.i c.loop-i.invariant.1.0 c.try_at.ensures c.if-try_at.true) G.ended c.if-cur.true);
      slots_unchanged = back c.requires.world c.args.depth c.args.slots.now c.requires.sound (length c.if-depth-elements.slots) c.save.ensures G.slots c.restore.ensures;
    }

pub loop-i-preserved : goal.loop-i-preserved
loop-i-preserved t c =
    let P = stepping c.requires.world c.args.depth c.args.slots.now c.requires.sound c.requires.depth_in_bounds.0 c.element_at.ensures c.arrive-step.ensures in
    elim c.if-try_at.branch [
      | then-try_at+else-cur w ↦
          let O : Onward (scene_of c.args.net.now c.args.position c.args.marking.now) c.args.inputs.now c.args.tested.now c.args.variables c.args.depth c.try_at.new.slots c.args.most c.args.budget c.loop-i.cur c.loop-i.menu =
          onward c.requires.world c.args.depth c.args.slots.now c.requires.sound P c.loop-i.i c.loop-i.invariant.1.0 c.try_at.ensures c.loop-i-test.true w.if-try_at.true c.requires.depth_in_bounds.1 c.try_at.auto.slots c.requires.settling c.loop-i.invariant.0.held
          (record { paid = let k = c.if-budget-t.false in omega arith; on = c.loop-i.invariant.0.unspent.on }) in
          let n : length c.try_at.new.slots ≡ length c.args.slots.now = O.long ∙ sym c.requires.depth_in_bounds.1 in
          let G : Came c.args.net.now c.args.position c.args.marking.now c.args.variables c.args.most c.args.budget c.args.depth c.try_at.new.slots (length c.args.slots.now) c.loop-i.cur c.loop-i.menu w.if-depth-elements.cur w.if-depth-elements.menu w.if-depth-elements.slots =
          elim w.if-depth-elements.branch [
            | then-depth-elements w' ↦
                went (settled_leaf c.requires.world (c.args.depth + 1) c.try_at.new.slots O.sound w'.if-depth-elements.true O.long O.settled O.unspent w'.leaf-one.ensures.leaf) w'.leaf-one.auto.menu n w'.slots-is w'.menu-is w'.cur-is
            | else-depth-elements w' ↦ went w'.walk-cur.ensures.ended w'.walk-cur.auto.menu (w'.walk-cur.auto.slots ∙ n) w'.slots-is w'.menu-is w'.cur-is
          ] in
          let K : Known c.args.net.now c.args.places.now c.args.slots.now c.args.tested.now c.gather_behind-first.result.arcs c.gather_behind-first.result.n w.if-depth-elements.keys w.if-depth-elements.amounts
          × ((length w.if-depth-elements.keys ≡ 8) × (length w.if-depth-elements.amounts ≡ 8)) =
          elim w.if-depth-elements.branch [
            | then-depth-elements w' ↦ (
              known_same w'.keys-is w'.amounts-is (known_kept c.loop-i.invariant.1.1.0 w'.leaf-one.ensures.keeps),
              (
                ap length w'.keys-is ∙ w'.leaf-one.ensures.keeps.keys_long ∙ c.loop-i.invariant.1.1.1.0,
                ap length w'.amounts-is ∙ w'.leaf-one.ensures.keeps.amounts_long ∙ c.loop-i.invariant.1.1.1.1,
              ),
            )
            | else-depth-elements w' ↦ (
              known_same w'.keys-is w'.amounts-is c.loop-i.invariant.1.1.0,
              (ap length w'.keys-is ∙ c.loop-i.invariant.1.1.1.0, ap length w'.amounts-is ∙ c.loop-i.invariant.1.1.1.1),
            )
          ] in (
            trying_same w.cur-is w.menu-is
                (trying_turn c.loop-i.invariant.0 (rw P.count c.loop-i-test.true) _ (try_on c.requires.world c.args.depth c.args.slots.now c.requires.sound P c.loop-i.i c.loop-i.invariant.1.0 c.try_at.ensures w.if-try_at.true) G.ended G.as_long w.if-cur.false),
            (
              w.slots-is ∙ back c.requires.world c.args.depth c.args.slots.now c.requires.sound (length w.if-depth-elements.slots) c.save.ensures G.slots w.restore.ensures,
              (known_same w.keys-is w.amounts-is K.0, (ap length w.keys-is ∙ K.1.0, ap length w.amounts-is ∙ K.1.1)),
            ),
          )
      | else-try_at w ↦ (
        trying_same w.cur-is w.menu-is
            (trying_skip c.loop-i.invariant.0 (rw P.count c.loop-i-test.true) (try_off c.requires.world c.args.depth c.args.slots.now c.requires.sound P c.loop-i.i c.loop-i.invariant.1.0 c.try_at.ensures w.if-try_at.false)
            (let k = c.if-budget-t.false in omega arith)),
        (
          w.slots-is ∙ try_left c.requires.world c.args.depth c.args.slots.now c.requires.sound P c.loop-i.i c.loop-i.invariant.1.0 c.try_at.ensures w.if-try_at.false,
          (known_same w.keys-is w.amounts-is c.loop-i.invariant.1.1.0, (ap length w.keys-is ∙ c.loop-i.invariant.1.1.1.0, ap length w.amounts-is ∙ c.loop-i.invariant.1.1.1.1)),
        ),
      )
    ]

pub returns : goal.returns
returns t c =
    let P = stepping c.requires.world c.args.depth c.args.slots.now c.requires.sound c.requires.depth_in_bounds.0 c.element_at.ensures c.arrive-step.ensures in
    record { ended = ended_same P.cost P.rows (ended_all c.loop-i.invariant.0 (rw P.count c.loop-i-test.false)); slots_unchanged = c.loop-i.invariant.1.0 }
