-- `menus::menu::most_rows` meets its contract: by the test of the width.
use Rattle.menus.proofs.Listing.{most_none, most_some}
use Rattle.menus.proofs.menu.most_rows.Goals as goal

pub returns-then-width-eq0 : goal.returns-then-width-eq0
returns-then-width-eq0 c = most_none c.args.room c.args.width c.if-width-eq0.true

pub returns : goal.returns
returns c = most_some c.args.room c.args.width c.if-width-eq0.false c.at_most.ensures
