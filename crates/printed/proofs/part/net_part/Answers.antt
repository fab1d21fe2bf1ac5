-- `printed::part::net_part` meets its contract: each return is a rule of `Parts`.
use Rattle.semantics.proofs.Cut.{headed}
use Rattle.printed.proofs.Parts.{net_past, net-refused, net_ready, net-menu}
use Rattle.printed.proofs.part.net_part.Goals as goal

pub bounds-net-0 : goal.bounds-net-0
bounds-net-0 c = let p = c.requires in (headed _ p.net p.next p.accepted).some_word

pub returns-then-transitions-i : goal.returns-then-transitions-i
returns-then-transitions-i c = net_past _ _ c.if-transitions-i.true

pub put_menu-requires : goal.put_menu-requires
put_menu-requires c = net_ready _ _ c.if-transitions-i.false c.in-Ok.ensures

pub returns-in-Err : goal.returns-in-Err
returns-in-Err c = net-refused _ _ c.if-transitions-i.false c.in-Err.ensures c.number.ensures c.position.ensures c.refusal_part.ensures

pub returns-in-Ok : goal.returns-in-Ok
returns-in-Ok c = net-menu _ _ c.if-transitions-i.false c.in-Ok.ensures c.put_menu.ensures
