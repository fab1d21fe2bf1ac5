-- `gimletlemon::menu::gimletlemon_menu` meets its contract: what menu answers is told, and the buffer is as menu leaves it.
use mathlib.Core.Path.{ap}
use Rattle.semantics.specs.Answer.{menu_refusal, menu_bindings, menu_tries}
use Rattle.semantics.specs.Calls.{MenuEnd}
use Rattle.gimletlemon.proofs.Telling.{passed_on}
use Rattle.gimletlemon.proofs.menu.gimletlemon_menu.Goals as goal

pub returns : goal.returns
returns c =
    let e = c.menu.ensures in
    let a = ap (λ (x : MenuEnd). x.answer) e in
    record { position_after = passed_on menu_refusal a c.tell_menu.ensures.position_after; bindings_after = passed_on menu_bindings a c.tell_menu.ensures.bindings_after; tries_after = passed_on menu_tries a c.tell_menu.ensures.tries_after; menu_after = ap (λ (x : MenuEnd). x.buffer) e }
