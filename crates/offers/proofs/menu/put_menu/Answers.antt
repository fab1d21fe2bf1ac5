-- `offers::menu::put_menu` meets its contract: each return is a rule of `Menus`.
use mathlib.Core.Path.{ap}
use Prim.Native.Nat.{ℕ}
use lib.ListN.{length-replicate}
use Rattle.semantics.specs.Answer.{listed_of}
use Rattle.offers.proofs.Menus.{found-room, found-text, withheld-text}
use Rattle.offers.proofs.menu.put_menu.Goals as goal

pub put_rows-requires : goal.put_rows-requires
put_rows-requires c = let k = c.menu.auto.menu in let h = found-room _ c.requires c.menu.ensures (length-replicate {A = ℕ} 4096 0) (ap listed_of c.in-Ok.is) in rw (k) h

pub returns-in-Ok : goal.returns-in-Ok
returns-in-Ok c = found-text _ c.requires c.menu.ensures (length-replicate {A = ℕ} 4096 0) (ap listed_of c.in-Ok.is) c.put_numbers-next.ensures c.put_rows.ensures

pub returns-in-Err : goal.returns-in-Err
returns-in-Err c = withheld-text _ c.requires c.menu.ensures (length-replicate {A = ℕ} 4096 0) (ap listed_of c.in-Err.is) (rw c.number.ensures at c.put_withheld.ensures)
