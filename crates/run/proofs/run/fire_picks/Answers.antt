-- `run::run::fire_picks` meets its contract: the loop keeps what is so of the run so far, and each way out is a rule of `Running`.
use mathlib.Core.Path.{refl, sym, ◌∙◌}
use borrow.Author.Rules.{rules}
use lib.Seq.{length-take-le}
use Rattle.run.proofs.Running.{run_accepted, sofar_first, sofar_ended, sofar_pickable, sofar_refused, sofar_fired}
use Rattle.run.proofs.run.fire_picks.Goals as goal

pub keep_rests-requires : goal.keep_rests-requires
keep_rests-requires c = record { net_known = c.requires.known; rests_len = refl }

pub slice_bounds-index_marking-end : goal.slice_bounds-index_marking-end
slice_bounds-index_marking-end c = c.requires.inside

pub slice_bounds-index_marking-end-2 : goal.slice_bounds-index_marking-end-2
slice_bounds-index_marking-end-2 c = sym (length-take-le _ _ c.requires.inside)

pub index_marking-requires : goal.index_marking-requires
index_marking-requires c = record { places_fit = c.requires.known.fits; begins_len = refl; accepted = run_accepted c.requires }

pub loop-done-init : goal.loop-done-init
loop-done-init c = sofar_first c.requires c.index_marking.ensures

pub slice_bounds-pick_once-end : goal.slice_bounds-pick_once-end
slice_bounds-pick_once-end c = sym c.keep_rests.ensures.long

pub slice_bounds-pick_once-end-in-loop-done : goal.slice_bounds-pick_once-end-in-loop-done
slice_bounds-pick_once-end-in-loop-done c = sym c.loop-done.invariant.full

pub pick_once-requires : goal.pick_once-requires
pick_once-requires c = sofar_pickable c.requires c.loop-done.invariant c.if-picks-done.false c.keep_rests.ensures

pub overflow_add-done : goal.overflow_add-done
overflow_add-done c = let h = c.if-picks-done.false in let f = c.well_formed.1.1.1.1.1.1.1.1.1.0 in search rules

pub loop-done-preserved : goal.loop-done-preserved
loop-done-preserved c =
    let p = c.pick_once.auto in
    sofar_fired c.requires c.loop-done.invariant c.if-picks-done.false c.in-Ok.ensures p.buffer p.spare p.menu p.begins

pub shape_of-buffer-then-picks-done : goal.shape_of-buffer-then-picks-done
shape_of-buffer-then-picks-done c = c.loop-done.invariant.buffer-kept

pub shape_of-spare-then-picks-done : goal.shape_of-spare-then-picks-done
shape_of-spare-then-picks-done c = c.loop-done.invariant.spare-kept

pub shape_of-menu-then-picks-done : goal.shape_of-menu-then-picks-done
shape_of-menu-then-picks-done c = c.loop-done.invariant.menu-kept

pub returns-then-picks-done : goal.returns-then-picks-done
returns-then-picks-done c = sofar_ended c.requires c.loop-done.invariant c.if-picks-done.true

pub shape_of-buffer-in-Err : goal.shape_of-buffer-in-Err
shape_of-buffer-in-Err c = c.pick_once.auto.buffer ∙ c.loop-done.invariant.buffer-kept

pub shape_of-spare-in-Err : goal.shape_of-spare-in-Err
shape_of-spare-in-Err c = c.pick_once.auto.spare ∙ c.loop-done.invariant.spare-kept

pub shape_of-menu-in-Err : goal.shape_of-menu-in-Err
shape_of-menu-in-Err c = c.pick_once.auto.menu ∙ c.loop-done.invariant.menu-kept

pub returns-in-Err : goal.returns-in-Err
returns-in-Err c = sofar_refused c.requires c.loop-done.invariant c.if-picks-done.false c.in-Err.ensures c.pick_once.auto.buffer
