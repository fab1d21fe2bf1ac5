-- `menus::menu::menu` meets its contract: refused input by `menu-refused`, else by what `list_once` answers. The tables that are lent keep
-- their length.
use Rattle.std.proofs.lemmas.Result.{err_from_is_err_and}
use Rattle.menus.proofs.Menus.{menu-refused, prepared_world, menu-listed}
use Rattle.menus.proofs.menu.menu.Goals as goal

pub list_once-requires : goal.list_once-requires
list_once-requires c = prepared_world c.in_ok-s.ensures c.prepare.auto.begins

pub returns-in_err-s : goal.returns-in_err-s
returns-in_err-s c =
    let a = c.args in
    let p = err_from_is_err_and c.from_residual.result c.from_residual.ensures.1 in
    rw (p.1, p.2) (menu-refused a.net.now a.transition a.marking.now a.budget a.menu.now _ c.in_err-s.ensures)

pub returns : goal.returns
returns c = menu-listed c.in_ok-s.ensures c.list_once.ensures
