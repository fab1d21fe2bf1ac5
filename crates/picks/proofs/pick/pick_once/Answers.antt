-- `picks::pick::pick_once` meets its contract: each return is a rule of `Picking`.
use mathlib.Core.Path.{sym}
use native.Mathlib.Omega.{arith}
use lib.Seq.{length-take-le}
use Rattle.std.proofs.lemmas.Result.{err_from_is_err_and}
use Rattle.picks.proofs.Picking.{among, pick-inside, pick-room, pick-rest, pick_lists, pick-withheld, pick_past, pick-fires, pick-fired}
use borrow.Author.Rules.{rules}
use Rattle.picks.proofs.pick.pick_once.Goals as goal

pub bounds-transitions-number : goal.bounds-transitions-number
bounds-transitions-number c = among c.requires

pub offset_bounds-net-position : goal.offset_bounds-net-position
offset_bounds-net-position c = let h = pick-inside c.requires in search rules

pub bounds-net-position : goal.bounds-net-position
bounds-net-position c = pick-inside c.requires

pub slice_bounds-own-end : goal.slice_bounds-own-end
slice_bounds-own-end c = pick-room c.requires

pub slice_bounds-list_menu-end : goal.slice_bounds-list_menu-end
slice_bounds-list_menu-end c = let h = pick-rest c.requires in omega arith

pub slice_bounds-list_menu-end-3 : goal.slice_bounds-list_menu-end-3
slice_bounds-list_menu-end-3 c = sym (length-take-le _ _ c.requires.inside)

pub list_menu-requires : goal.list_menu-requires
list_menu-requires c = pick_lists c.requires

pub returns-in_err-listed : goal.returns-in_err-listed
returns-in_err-listed c =
    let p = err_from_is_err_and c.from_residual.result c.from_residual.ensures.1 in
    rw (p.1, p.2) (pick-withheld c.requires c.args.budget c.args.spare.now c.args.menu.now c.in_err-listed.ensures)

pub returns-then-listed-index : goal.returns-then-listed-index
returns-then-listed-index c = pick_past c.requires c.args.budget c.args.spare.now c.args.menu.now c.in_ok-listed.ensures c.if-listed-index.true

pub fire_row-requires : goal.fire_row-requires
fire_row-requires c = pick-fires c.requires c.args.budget c.args.spare.now c.args.menu.now c.in_ok-listed.ensures c.if-listed-index.false

pub returns : goal.returns
returns c = pick-fired c.requires c.args.budget c.args.spare.now c.args.menu.now c.in_ok-listed.ensures c.if-listed-index.false c.fire_row.ensures
